-- Bytes that are written by asks: which may be, what stands after one of them, and their marks.
use Rattle.std.proofs.Common.{◌≡◌, ◌≤◌, ℕ, suc, Option, None, Some, List, [], ◌∷◌, ◌++◌, ◌-◌, get_or, length, length-append, length-drop, length-take-le, drop, take, take-take, arith, refl, sym, ap, subst, ◌∙◌}
use Rattle.std.proofs.Math.Seq.{take-append_seam}
use Rattle.std.specs.Prelude.{IfSome, Result, Ok, Err, OnErr}
use Rattle.ca_qpstate.specs.ca_model.declared.mark.Mark.{Mark}
use Rattle.std.specs.List.{AllByRecursion}
use Rattle.ca_keys.specs.declared.access.Ask.{Ask}
use Rattle.ca_keys.specs.declared.access.Kind.TheVariants as kinds
use Rattle.ca_keys.specs.declared.place.Span.{Span}
use Rattle.ca_base.specs.Sight.{Sight}
use Rattle.ca_grant.specs.Reaching.{IsFound, sight_after_write}
use Rattle.ca_qpstate.specs.ca_model.machine.Responses.{local_writes, writes_by}
use Rattle.ca_qp_rows.proofs.AskLemmas.{behind-first}
use Rattle.ca_qp_rows.specs.Asks.{AreAsksFor, CanWrite, IsAskOf, IsFoundFirst, IsGranted, touched_by}

pub can_still : {S : Type 0} (sight : S → Sight) (judges touches : S → Ask → Type 0) (before after : S) (ask : Ask) (bytes : List ℕ)
    → ((x : Ask) → judges before x → judges after x) → ((x : Ask) → touches before x → touches after x)
    → sight after ≡ sight_after_write (sight before) ask bytes
    → (xs : List (Ask × List ℕ)) → CanWrite sight judges touches before xs → CanWrite sight judges touches after xs
can_still sight judges touches before after ask bytes hand bytes_hand sees [] can = record {}
can_still sight judges touches before after ask bytes hand bytes_hand sees (x ∷ xs) can = (
  (hand x.0 can.0.0, bytes_hand x.0 can.0.1, rw sees can.0.2, can.0.3),
  can_still sight judges touches before after ask bytes hand bytes_hand sees xs can.1,
)

-- bytes may be written by asks that are at hand, are allowed, and touch no more of them than there are
pub can_write : {S : Type 0} (sight : S → Sight) (judges touches : S → Ask → Type 0) (s : S) (asks : List Ask) (bytes : List ℕ)
    → AllByRecursion (judges s) asks → AllByRecursion (touches s) asks → AllByRecursion (IsGranted (sight s)) asks
    → AreAsksFor kinds.Write (length bytes) asks → CanWrite sight judges touches s (writes_by asks bytes)
can_write sight judges touches s asks bytes keys hand granted are = by asks bytes keys hand granted are.each are.touched
  where
    by : (asks : List Ask) (bytes : List ℕ) → AllByRecursion (judges s) asks → AllByRecursion (touches s) asks → AllByRecursion (IsGranted (sight s)) asks
        → AllByRecursion (IsAskOf kinds.Write) asks → touched_by asks ≤ length bytes → CanWrite sight judges touches s (writes_by asks bytes)
    by [] bytes keys hand granted each enough = record {}
    by (ask ∷ asks) bytes keys hand granted each enough = (
      (keys.0, hand.0, granted.0, record { ask = each.0; count = length-take-le ask.touch bytes (omega (arith, enough)) }),
      by asks (drop ask.touch bytes) keys.1 hand.1 granted.1 each.1 (omega (arith, enough, length-drop ask.touch bytes)),
    )

-- each write has one mark
pub marks-count : (asks : List Ask) (bytes : List ℕ) → length (local_writes (writes_by asks bytes)) ≡ length asks
marks-count [] bytes = refl
marks-count (ask ∷ asks) bytes = ap suc (marks-count asks (drop ask.touch bytes))

-- a list that begins with a longer one begins with its front
pub still_begins : {A E : Type 0} (result : Result A E) (front longer all more : List Mark) → longer ≡ front ++ more
    → OnErr result (take (length longer) all ≡ longer) → OnErr result (take (length front) all ≡ front)
still_begins (Ok done) front longer all more is begins = tt
still_begins (Err error) front longer all more is begins =
    sym (take-take (length front) (length longer) all (omega (arith, ap length is, length-append front more)))
    ∙ ap (take (length front)) (begins ∙ is) ∙ take-append_seam front more

-- the accesses behind the first may still be made, once that is
pub can_behind : {S : Type 0} (sight : S → Sight) (judges touches : S → Ask → Type 0) (before after : S) (asks : List Ask) (d : Ask) (bytes behind front : List ℕ)
    → 1 ≤ length asks → behind ≡ drop (get_or asks 0 d).touch bytes
    → CanWrite sight judges touches before (writes_by asks bytes)
    → ((x : Ask) → judges before x → judges after x) → ((x : Ask) → touches before x → touches after x)
    → sight after ≡ sight_after_write (sight before) (get_or asks 0 d) front
    → CanWrite sight judges touches after (writes_by (take (length asks - 1) (drop 1 asks)) behind)
can_behind sight judges touches before after [] d bytes behind front some is can hand bytes_hand sees = record {}
can_behind sight judges touches before after (ask ∷ asks) d bytes behind front some is can hand bytes_hand sees =
    subst (λ (xs : List Ask). CanWrite sight judges touches after (writes_by xs behind)) (sym (behind-first ask asks))
    (subst (λ (bs : List ℕ). CanWrite sight judges touches after (writes_by asks bs)) (sym is)
    (can_still sight judges touches before after ask front hand bytes_hand sees (writes_by asks (drop ask.touch bytes)) can.1))

pub found_of_first : (s : Sight) (asks : List Ask) (d : Ask) {A : Type 0} (span : A → Span) (found : Option A)
    → 1 ≤ length asks → IfSome found (λ f. IsFoundFirst s asks (span f)) → IfSome found (λ f. IsFound s (get_or asks 0 d) (span f))
found_of_first s asks d span None some is = tt
found_of_first s [] d span (Some f) some is = absurd is
found_of_first s (ask ∷ asks) d span (Some f) some is = is
