-- The part that is needed next is taken: what it is before, and what it makes of a pass amid taking. For proofs only.
use Rattle.std.proofs.Common.{◌≡◌, ◌≢◌, ◌∙◌, append-nil, refl, sym, ap, subst, ℕ, ◌+◌, ◌<◌, ◌≤◌, arith, inr, Bool, true, false, [], ◌∷◌, ◌++◌, length, Option, Some, is_some, if◌then◌else◌, true≢false, Vec}
use Rattle.std.proofs.lemmas.List.{length-append}
use Rattle.std.specs.Option.{option_and_then}
use Rattle.std.specs.Vec.{vec_capacity}
use Rattle.std.specs.declared.alloc.Global.{Global}
use Rattle.ca_base.specs.Configuration.{configuration_in}
use Rattle.ca_base.specs.declared.limits.TheConstants.{MAX_PASSES}
use Rattle.ca_base.specs.declared.settings.Settings.{Settings}
use Rattle.ca_verbs_machine.specs.After.{world_after}
use Rattle.ca_verbs_machine.specs.Asks.{asked_needs}
use Rattle.ca_verbs_machine.specs.Hands.{at, next_name}
use Rattle.ca_verbs_machine.specs.Meanings.{CanFollow, StandsFor, next_of}
use Rattle.ca_verbs_machine.specs.Places.{asked-configured, few-asked, placed}
use Rattle.ca_verbs_machine.specs.Steps.{up-world}
use Rattle.ca_verbs_machine.specs.Values.{PartValue, value_of}
use Rattle.ca_verbs_machine.specs.declared.asked.Asked.{Asked}
use Rattle.ca_adapter_parts.specs.declared.held.Held.{Held}
use Rattle.ca_adapter_parts.specs.declared.part.Part.{Part}
use Rattle.ca_adapter_parts.specs.HeldView.{Holding, holding, room_for}
use Rattle.ca_adapter_parts.specs.Taking as taking
use Rattle.ca_adapter_parts.specs.Taking.{is_of_kind}
use Rattle.ca_verbs_machine.proofs.of_ca_law_parts.Parts.EventPartLemmas.{among-held}
use Rattle.ca_verbs_machine.proofs.of_ca_law_parts.Parts.NeedsLemmas.{IsMissing, next-same, some-missing}
use Rattle.ca_model.specs.declared.part_name.PartName.{PartName}
use Rattle.ca_model.specs.machine.Parts.{ShowsHeld, is_configured_part, listed, part_eq, part_of}
use Rattle.ca_model.specs.machine.World.{World, get}
use Rattle.ca_parts.proofs.Lists.{follows_last}
use Rattle.ca_parts.specs.Calls.{MayTake, Sees, WasTaken}
use Rattle.ca_parts.specs.Hands.{IsTakenFor}
use Rattle.ca_parts.specs.Lists.{Has, without}
use Rattle.ca_parts.specs.Views.{with_look, with_part, with_refusal, without_part}
use Rattle.ca_model_places.specs.Places.{place_of}
use Rattle.ca_verbs_taking.proofs.CountLemmas.{one-fewer, with_name}
use Rattle.ca_verbs_taking.proofs.GiveLemmas.{last-has, without-last}
use Rattle.ca_verbs_taking.proofs.HandLemmas.{added, next-is, none-there}
use Rattle.ca_verbs_taking.proofs.PartLemmas.{other-with, part-path}
use Rattle.ca_verbs_taking.proofs.SeenLemmas.{kind-seen, seen-of, seen-world}
use Rattle.ca_verbs_taking.specs.Amid.{IsAmid, IsNext, TookPart, missing}
use Rattle.ca_verbs_taking.specs.Holding.{IsHolding, Known}
use Rattle.ca_verbs_taking.specs.Taking.{HasLooked, IsSeen, WasBusy, WasFull}

-- a place under a copy of the settings
pub place-is : (key s : Settings) (name : PartName) (o : Option ℕ) (place : ℕ) → s ≡ key → o ≡ place_of (configuration_in s) name → o ≡ Some place → place_of (configuration_in key) name ≡ Some place
place-is key s name o place same is there = ap (λ k. place_of (configuration_in k) name) (sym same) ∙ sym is ∙ there

module _ (key : Settings) (asked : Asked) (n : ℕ) (v : Known) (h : Held) (names : Vec PartName Global) (name : PartName) (amid : IsAmid key asked n v h names) (next : IsNext key asked name h) where
  next-in : next_name (configuration_in key) asked (at v.hand) ≡ Some name
  next-in = sym (next-is (configuration_in key) (holding h) names.items v.hand amid.limited amid.holds asked) ∙ next

  missing-in : (w : World) → ShowsHeld (holding h).parts (holding h).world w → IsMissing (holding h).parts (listed w (asked_needs (configuration_in key) asked)) name
  missing-in w shows = some-missing (holding h).parts w (asked_needs (configuration_in key) asked) name
      (sym (next-same (holding h).parts (holding h).world w (asked_needs (configuration_in key) asked) shows) ∙ next)

  seen-here : ShowsHeld (holding h).parts (holding h).world (world_after (configuration_in key) amid.seen.log)
  seen-here = seen-world key n h names.items v.hand amid.seen amid.holds

  -- it is not held, it is configured, and fewer than may be taken were taken
  pub next-free : (holding h).parts name ≡ false
  next-free = (some-missing (holding h).parts (holding h).world (asked_needs (configuration_in key) asked) name next).free

  pub next-placed : is_some (place_of (configuration_in key) name) ≡ true
  next-placed =
      let w : World = world_after (configuration_in key) amid.seen.log in let after = up-world (configuration_in key) amid.seen.log amid.seen.up in
      placed (configuration_in key) name amid.limited (among-held (is_configured_part (configuration_in key)) (listed w (asked_needs (configuration_in key) asked)) name
      (asked-configured (configuration_in key) w asked amid.limited after.sound after.placed) (missing-in w seen-here).among)

  pub next-few : length names.items < 34
  next-few =
      let w : World = world_after (configuration_in key) amid.seen.log in let after = up-world (configuration_in key) amid.seen.log amid.seen.up in
      let one : IsMissing (holding h).parts (listed w (asked_needs (configuration_in key) asked)) name = missing-in w seen-here in
      omega (
        arith,
        one-fewer (holding h).parts name (listed w (asked_needs (configuration_in key) asked)) one.among one.free,
        amid.fewer w seen-here,
        few-asked (configuration_in key) w asked after.sound,
      )

  pub next-room : 0 < room_for h name
  next-room = omega (arith, next-few, amid.room name)

  module _ (place : ℕ) (place_at : place_of (configuration_in key) name ≡ Some place) where
    pub may-take : MayTake next_of key asked place v
    may-take = record { next = ap (option_and_then (place_of (configuration_in key))) next-in ∙ place_at; taking = amid.taking }

    pub was-busy : (new : Known) → WasTaken next_of CanFollow StandsFor key place v → v.share ≢ MAX_PASSES → new ≡ with_refusal place v → WasBusy key asked name v new
    was-busy new was other is = record {
      place = place;
      place_is = place_at;
      at = v;
      taken = amid.taken;
      needed = may-take.next;
      was = was;
      not_alone = other;
      refused = ap (λ (u : Known). u.refused) is;
      looks = [];
      noted = ap (λ (u : Known). u.notes) is ∙ sym (append-nil v.notes);
      under = λ k g has. absurd has;
    }

    module _ (part m : ℕ) (value : PartValue) (mid new : Known) (same : part ≡ place) (took : mid ≡ with_part asked place value v) (looks : new ≡ with_look m mid)
        (sees : Sees next_of CanFollow StandsFor key m mid) where
      looked-new : new ≡ with_look m (with_part asked place value v)
      looked-new = looks ∙ ap (with_look m) took

      hand-new : new.hand ≡ v.hand ++ (place, value) ∷ []
      hand-new = ap (λ (u : Known). u.hand) looked-new

      sees-taken : Sees next_of CanFollow StandsFor key m (with_part asked place value v)
      sees-taken = subst (Sees next_of CanFollow StandsFor key m) took sees

      noted-new : HasLooked m (v.hand ++ (place, value) ∷ []) v new
      noted-new = record {
        between = [];
        noted = ap (λ (u : Known). u.notes) looked-new;
        later = λ k e has. (sees-taken.entries_true k e has).0;
        read = λ k g has. (sees-taken.notes_true k g has).0;
        before = λ k g has. absurd has;
      }

      pub has-taken : Has (part, value) new.hand
      has-taken = last-has new.hand v.hand (part, value) (hand-new ∙ ap (λ k. v.hand ++ (k, value) ∷ []) (sym same))

      gone : (final : Known) → final ≡ without_part part new → final.hand ≡ v.hand
      gone final is = ap (λ (u : Known). u.hand) is ∙ ap (without part) hand-new ∙ ap (λ k. without k (v.hand ++ (place, value) ∷ [])) same
          ∙ without-last place value v.hand (none-there (configuration_in key) (holding h) names.items v.hand name place amid.limited amid.holds.shown (sym (amid.holds.named name) ∙ next-free) place_at)

      pub still-holding : (final : Known) → final ≡ without_part part new → IsHolding (configuration_in key) (holding h) names.items final.hand
      still-holding final is = subst (IsHolding (configuration_in key) (holding h) names.items) (sym (gone final is)) amid.holds

      pub was-full : (final : Known) → key.events ≤ m → final ≡ without_part part new → WasFull key m v final
      was-full final over is = record {
        over = over;
        hand = v.hand ++ (place, value) ∷ [];
        noted = record {
          between = noted-new.between;
          noted = ap (λ (u : Known). u.notes) is ∙ noted-new.noted;
          later = noted-new.later;
          read = noted-new.read;
          before = noted-new.before;
        };
        refused = ap (λ (u : Known). u.refused) is ∙ ap (λ (u : Known). u.refused) looked-new;
      }

      module _ (under : m < key.events) (inner : Part) (inner_is : value_of inner ≡ value) where
        seen-new : IsSeen key m (v.hand ++ (place, value) ∷ [])
        seen-new = seen-of key m (with_part asked place value v) amid.limited under sees-taken

        pub kind-taken : is_of_kind name inner ≡ true
        kind-taken = kind-seen key m (v.hand ++ (place, value) ∷ []) name place inner seen-new
            (last-has (v.hand ++ (place, value) ∷ []) v.hand (place, value_of inner) (ap (λ x. v.hand ++ (place, x) ∷ []) (sym inner_is))) place_at

        module _ (k : Held) (more : Vec PartName Global) (held_is : holding k ≡ taking.with_part name inner (holding h)) (more_is : more.items ≡ names.items ++ name ∷ []) where
          pub holds-more : IsHolding (configuration_in key) (holding k) more.items new.hand
          holds-more = subst (λ ns. IsHolding (configuration_in key) (holding k) ns new.hand) (sym more_is)
              (subst (IsHolding (configuration_in key) (holding k) (names.items ++ name ∷ [])) (ap (λ x. v.hand ++ (place, x) ∷ []) inner_is ∙ sym hand-new)
              (added (configuration_in key) (holding h) (holding k) name inner place names.items v.hand amid.holds kind-taken next-free place_at held_is))

          parts-more : (p : PartName) → (holding k).parts p ≡ with_name name (holding h).parts p
          parts-more p = ap (λ (z : Holding). z.parts p) held_is

          -- a world that shows what is held now shows what was held before
          shows-before : (w : World) → ShowsHeld (holding k).parts (holding k).world w → ShowsHeld (holding h).parts (holding h).world w
          shows-before w shows o held = sym (ap (λ (z : Holding). get z.world o) held_is ∙ other-with name inner (holding h).world o kind-taken apart)
              ∙ shows o (parts-more (part_of o) ∙ ap (λ b. if b then true else (holding h).parts (part_of o)) apart ∙ held)
            where
              by : (b : Bool) → part_eq name (part_of o) ≡ b → b ≡ false
              by false e = refl
              by true e = absurd (true≢false (sym held ∙ ap (holding h).parts (sym (part-path name (part_of o) e)) ∙ next-free))

              apart : part_eq name (part_of o) ≡ false
              apart = by (part_eq name (part_of o)) refl

          fewer-more : (w : World) → ShowsHeld (holding k).parts (holding k).world w
              → missing (holding k).parts (listed w (asked_needs (configuration_in key) asked)) + length more.items ≤ length (listed w (asked_needs (configuration_in key) asked))
          fewer-more w shows =
              let before : ShowsHeld (holding h).parts (holding h).world w = shows-before w shows in
              let one : IsMissing (holding h).parts (listed w (asked_needs (configuration_in key) asked)) name = missing-in w before in
              let now : missing (with_name name (holding h).parts) (listed w (asked_needs (configuration_in key) asked)) + length more.items ≤ length (listed w (asked_needs (configuration_in key) asked)) = omega (
                arith,
                one-fewer (holding h).parts name (listed w (asked_needs (configuration_in key) asked)) one.among one.free,
                amid.fewer w before,
                ap length more_is,
                length-append names.items (name ∷ []),
              ) in
              subst (λ (f : PartName → Bool). missing f (listed w (asked_needs (configuration_in key) asked)) + length more.items ≤ length (listed w (asked_needs (configuration_in key) asked))) (sym (λ i p. parts-more p i)) now

          pub amid-more : ((p : PartName) → room_for h p ≤ room_for k p + 1) → 34 ≤ vec_capacity more → IsAmid key asked m new k more
          amid-more room capacity = record {
            limited = amid.limited;
            holds = holds-more;
            taken = subst (IsTakenFor next_of key asked) (sym hand-new) (follows_last (λ before x. next_of key asked before ≡ Some x.0) [] v.hand (place, value) amid.taken may-take.next);
            taking = inr (ap (λ (u : Known). u.giving) looked-new, ap (λ (u : Known). u.event) looked-new);
            looked = ap (λ (u : Known). u.looked) looked-new;
            under = under;
            seen = subst (IsSeen key m) (sym hand-new) seen-new;
            fewer = fewer-more;
            room = λ p. omega (arith, amid.room p, room p, ap length more_is, length-append names.items (name ∷ []));
            capacity = capacity;
          }

          pub took-more : TookPart m v new
          took-more = record {
            noted = subst (λ g. HasLooked m g v new) (sym hand-new) noted-new;
            refused = ap (λ (u : Known). u.refused) looked-new;
          }
