-- Parts taken one after another: how it begins, how it goes on, and how it ends. For proofs only.
use Rattle.std.proofs.Common.{◌≡◌, ◌∙◌, sym, ap, subst, ℕ, ◌<◌, ◌≤◌, ⊎_elim, append_assoc, arith, inl, List, [], ◌∷◌, ◌++◌, length, None, Vec}
use Rattle.std.specs.Option.{option_and_then}
use Rattle.std.specs.Vec.{vec_capacity}
use Rattle.std.specs.declared.alloc.Global.{Global}
use Rattle.ca_base.specs.Configuration.{Configuration, configuration_in}
use Rattle.ca_base.specs.declared.settings.Settings.{Settings}
use Rattle.ca_verbs_machine.specs.After.{world_after}
use Rattle.ca_verbs_machine.specs.Asks.{asked_needs}
use Rattle.ca_verbs_machine.specs.Meanings.{CanFollow, StandsFor, next_of}
use Rattle.ca_verbs_machine.specs.Places.{few-asked}
use Rattle.ca_verbs_machine.specs.Steps.{up-world}
use Rattle.ca_verbs_machine.specs.Values.{PartValue}
use Rattle.ca_verbs_machine.specs.declared.asked.Asked.{Asked}
use Rattle.ca_adapter_parts.specs.declared.held.Held.{Held}
use Rattle.ca_adapter_parts.specs.HeldView.{holding, room_for}
use Rattle.ca_model.specs.declared.part_name.PartName.{PartName}
use Rattle.ca_model.specs.machine.Parts.{listed, next_part}
use Rattle.ca_model.specs.machine.Sound.{AreLimited}
use Rattle.ca_model.specs.machine.World.{World}
use Rattle.ca_parts.proofs.Lists.{has_either, has_last}
use Rattle.ca_parts.specs.Calls.{Sees}
use Rattle.ca_parts.specs.Hands.{IsTakenFor}
use Rattle.ca_parts.specs.Views.{with_look}
use Rattle.ca_model_places.specs.Places.{place_of}
use Rattle.ca_verbs_taking.specs.Hands.{IsEmpty}
use Rattle.ca_verbs_taking.proofs.CountLemmas.{all-missing}
use Rattle.ca_verbs_taking.proofs.HandLemmas.{next-is}
use Rattle.ca_verbs_taking.proofs.SeenLemmas.{looked-of, looked-on, seen-of, seen-world}
use Rattle.ca_verbs_taking.specs.Amid.{IsAmid, TookPart}
use Rattle.ca_verbs_taking.specs.Holding.{IsHolding, Known}
use Rattle.ca_verbs_taking.specs.Taking.{HasLooked, IsSeen, SameRecord, TookAll, WasFull, WasStopped}
use Rattle.ca_verbs_taking.specs.declared.take_error.TakeError.{TakeError}
use Rattle.ca_verbs_taking.specs.declared.take_error.TakeError.TheVariants as errors

-- a pass amid taking, whose looks and refusals go on from those that it had first
pub record IsGoing (key : Settings) (asked : Asked) (n count : ℕ) (old v : Known) (h : Held) (names : Vec PartName Global) : Type 0 where
  pub amid : IsAmid key asked n v h names
  pub number : length names.items ≡ count
  pub noted : HasLooked n v.hand old v
  pub refused : v.refused ≡ old.refused
  pub same : SameRecord old v

empty-holding : (c : Configuration) (h : Held) (names : List PartName) (hand : List (ℕ × PartValue)) → IsEmpty (holding h) → names ≡ [] → hand ≡ [] → IsHolding c (holding h) names hand
empty-holding c h names hand empty none idle = subst (λ ns. IsHolding c (holding h) ns hand) (sym none) (subst (IsHolding c (holding h) []) (sym idle) (record {
  shown = record {};
  named = empty;
  apart = record {};
}))

-- nothing is in hand, and the clock was read
module _ (key : Settings) (asked : Asked) (n : ℕ) (old v : Known) (h : Held) (names : Vec PartName Global) (limited : AreLimited (configuration_in key)) (looks : v ≡ with_look n old)
    (sees : Sees next_of CanFollow StandsFor key n old) (idle : old.hand ≡ []) (empty : IsEmpty (holding h)) (none : names.items ≡ []) where
  hand-none : v.hand ≡ []
  hand-none = ap (λ (u : Known). u.hand) looks ∙ idle

  noted-first : HasLooked n v.hand old v
  noted-first = subst (λ g. HasLooked n g old v) (sym (ap (λ (u : Known). u.hand) looks)) (looked-of key n old v sees (ap (λ (u : Known). u.notes) looks))

  pub holds-first : IsHolding (configuration_in key) (holding h) names.items v.hand
  holds-first = empty-holding (configuration_in key) h names.items v.hand empty none hand-none

  pub full-first : key.events ≤ n → WasFull key n old v
  full-first over = record { over = over; hand = v.hand; noted = noted-first; refused = ap (λ (u : Known). u.refused) looks }

  pub going-first : n < key.events → ((p : PartName) → 34 ≤ room_for h p) → 34 ≤ vec_capacity names → IsGoing key asked n 0 old v h names
  going-first under room capacity = record {
    amid = record {
      limited = limited;
      holds = holds-first;
      taken = subst (IsTakenFor next_of key asked) (sym hand-none) (record {});
      taking = inl hand-none;
      looked = ap (λ (u : Known). u.looked) looks;
      under = under;
      seen = subst (IsSeen key n) (sym (ap (λ (u : Known). u.hand) looks)) (seen-of key n old limited under sees);
      fewer = λ w shows. omega (arith, all-missing (holding h).parts (listed w (asked_needs (configuration_in key) asked)), ap length none);
      room = λ p. omega (arith, room p);
      capacity = capacity;
    };
    number = ap length none;
    noted = noted-first;
    refused = ap (λ (u : Known). u.refused) looks;
    same = ((ap (λ (u : Known). u.share) looks, ap (λ (u : Known). u.passes) looks), ap (λ (u : Known). u.entries) looks);
  }

-- one part more
pub going-on : (key : Settings) (asked : Asked) (m n count more_count : ℕ) (old v new : Known) (h k : Held) (names more : Vec PartName Global) → IsGoing key asked m count old v h names
    → IsAmid key asked n new k more → TookPart n v new → SameRecord v new → length more.items ≡ more_count → IsGoing key asked n more_count old new k more
going-on key asked m n count more_count old v new h k names more is amid took same number = record {
  amid = amid;
  number = number;
  noted = looked-on m n v.hand new.hand old v new is.noted is.same took.noted;
  refused = took.refused ∙ is.refused;
  same = ((same.0.0 ∙ is.same.0.0, same.0.1 ∙ is.same.0.1), same.1 ∙ is.same.1);
}

-- it stopped
pub stopped-on : (key : Settings) (asked : Asked) (m count : ℕ) (old v new : Known) (h : Held) (names : Vec PartName Global) (e : TakeError) → IsGoing key asked m count old v h names
    → WasStopped key asked e v new → WasStopped key asked e old new
stopped-on key asked m count old v new h names (errors.Busy name) is was = record {
  place = was.place;
  place_is = was.place_is;
  at = was.at;
  taken = was.taken;
  needed = was.needed;
  was = was.was;
  not_alone = λ all. was.not_alone (is.same.0.0 ∙ all);
  refused = was.refused ∙ ap (λ rs. rs ++ was.place ∷ []) is.refused;
  looks = (is.noted.between ++ (m, v.hand) ∷ []) ++ was.looks;
  noted = was.noted ∙ ap (λ ns. ns ++ was.looks) is.noted.noted ∙ append_assoc old.notes (is.noted.between ++ (m, v.hand) ∷ []) was.looks;
  under = λ k g has. ⊎_elim
      (λ first. ⊎_elim (λ before. let low : k ≤ m = is.noted.before k g before in omega (arith, low, is.amid.under))
      (λ last. let same : k ≡ m = ap (λ (x : ℕ × List (ℕ × PartValue)). x.0) last in omega (arith, same, is.amid.under))
      (has_last (k, g) (m, v.hand) is.noted.between first))
      (was.under k g) (has_either (k, g) (is.noted.between ++ (m, v.hand) ∷ []) was.looks has);
}
stopped-on key asked m count old v new h names (errors.Full n) is was = record {
  over = was.over;
  hand = was.hand;
  noted = looked-on m n v.hand was.hand old v new is.noted is.same was.noted;
  refused = was.refused ∙ is.refused;
}

-- nothing more is needed
pub went-all : (key : Settings) (asked : Asked) (n count : ℕ) (old v : Known) (h : Held) (names : Vec PartName Global) → IsGoing key asked n count old v h names
    → next_part (holding h).parts (holding h).world (asked_needs (configuration_in key) asked) ≡ None → TookAll key asked n old v
went-all key asked n count old v h names is none = record {
  taken = is.amid.taken;
  all = ap (option_and_then (place_of (configuration_in key))) (sym (next-is (configuration_in key) (holding h) names.items v.hand is.amid.limited is.amid.holds asked) ∙ none);
  taking = is.amid.taking;
  looked = is.amid.looked;
  under = is.amid.under;
  seen = is.amid.seen;
  noted = is.noted;
  refused = is.refused;
}

-- never are as many taken as would be too many
pub few-taken : (key : Settings) (asked : Asked) (n count : ℕ) (old v : Known) (h : Held) (names : Vec PartName Global) → IsGoing key asked n count old v h names → count ≤ 34
few-taken key asked n count old v h names is =
    let w : World = world_after (configuration_in key) is.amid.seen.log in let after = up-world (configuration_in key) is.amid.seen.log is.amid.seen.up in
    omega (
      arith,
      is.amid.fewer w (seen-world key n h names.items v.hand is.amid.seen is.amid.holds),
      few-asked (configuration_in key) w asked after.sound,
      is.number,
    )
