-- What an atomic leaves, whose answer was queued before it acted.
use Rattle.std.proofs.Common.{◌≡◌, ℕ, false, true, List, [], ◌∷◌, ◌++◌, refl, sym, ap, subst, ◌∙◌, Option, None}
use Rattle.std.proofs.lemmas.List.{append-nil}
use Rattle.ca_keys.specs.declared.access.Ask.{Ask}
use Rattle.ca_keys.specs.declared.access.Kind.{Kind}
use Rattle.ca_keys.specs.declared.verdict.Verdict.TheVariants.{Swapped}
use Rattle.ca_keys.specs.Memory.{little_endian, little_endian_bytes}
use Rattle.ca_base.specs.declared.limits.TheConstants.{ATOMIC_BYTES}
use Rattle.ca_base.specs.declared.queue_numbers.Queued.TheVariants.{Atomic}
use Rattle.ca_base.specs.Sight.{Invalidation, Sight, bytes_in, denial_in, first_denied}
use Rattle.ca_base.specs.objects.QueuePair.{QueuePair}
use Rattle.ca_base.specs.objects.Saved.{after_save}
use Rattle.ca_wire.specs.declared.atomic_eth.AtomicEth.{AtomicEth}
use Rattle.ca_wire.specs.Packet.{Fields}
use Rattle.ca_model.specs.Marks.{MarkList}
use Rattle.ca_model.specs.declared.mark.Mark.{Mark}
use Rattle.ca_model.specs.machine.Arrivals.{packet_ask, remote_mark, with_answer, with_flag}
use Rattle.ca_model.specs.machine.Expected.{atomic_row}
use Rattle.ca_model.specs.machine.Row.{queue_and_marks}
use Rattle.ca_responder_answers.specs.ca_qp_rows.Made.{HasMade}
use Rattle.ca_responder_answers.specs.Numbers.{past_packet}
use Rattle.ca_responder_operations.specs.Taking.{HasTaken, Outcome, outcome_in}
use Rattle.ca_responder_operations.specs.declared.request.SharedReceive.TheVariants.{Stays}
use Rattle.ca_responder_operations.proofs.OutcomeLemmas.{outcome-allowed}
use Rattle.ca_responder_operations.specs.Atomics.{number_left}

-- what an atomic found is saved and queued, and the packet is accepted
abbrev pub after_atomic : ℕ → QueuePair → QueuePair
after_atomic found q = past_packet 1 true (record (with_answer (Atomic q.responder.expected found false) q) {
  saved = after_save q.responder.expected found q.saved;
})

none-denied : (s : Sight) (ask : Ask) → denial_in s ask ≡ None → first_denied s (ask ∷ []) ≡ None
none-denied s ask e = rw e refl

-- an atomic that is allowed and acted is taken as its row says
pub atomic-placed : {S : Type 0} (written : S → Ask → List ℕ → S) (revoked : S → Invalidation → S) (s : Sight) (q new : QueuePair) (p : Fields)
    (envelope : Option ℕ) (kind : Kind) (a : AtomicEth) (ask : Ask) (before after : MarkList) (reach new_reach : S)
    → ask ≡ packet_ask q a.key kind a.address ATOMIC_BYTES ATOMIC_BYTES → denial_in s ask ≡ None
    → let found = little_endian (bytes_in s ask) in
    HasMade (queue_and_marks (after_atomic found q) (remote_mark ask envelope (Swapped found (number_left kind a found)) ∷ [])) new before after
    → new_reach ≡ written reach ask (little_endian_bytes (number_left kind a found))
    → let o = outcome_in s (atomic_row (with_flag false q) p envelope kind a) in
    HasTaken written revoked Stays o.ending o.ended new before after reach new_reach
atomic-placed {S} written revoked s q new p envelope kind a ask before after reach new_reach is allowed made wrote =
    subst (λ (o : Outcome). HasTaken written revoked Stays o.ending o.ended new before after reach new_reach)
    (sym (outcome-allowed s (atomic_row (with_flag false q) p envelope kind a) (none-denied s there (subst (λ (x : Ask). denial_in s x ≡ None) is allowed))))
    (refl, (record { queue = made.queue ∙ ap (λ (n : ℕ). after_atomic n q) same; marks = made.marks ∙ marked; room = made.room }, wrote ∙ put))
  where
    there : Ask
    there = packet_ask q a.key kind a.address ATOMIC_BYTES ATOMIC_BYTES

    whole : List ℕ
    whole = bytes_in s there ++ []

    same : little_endian (bytes_in s ask) ≡ little_endian whole
    same = ap (λ (x : Ask). little_endian (bytes_in s x)) is ∙ ap (λ (xs : List ℕ). little_endian xs) (sym (append-nil (bytes_in s there)))

    mark : Ask → ℕ → Mark
    mark x n = remote_mark x envelope (Swapped n (number_left kind a n))

    marked : before.marks ++ mark ask (little_endian (bytes_in s ask)) ∷ [] ≡ before.marks ++ mark there (little_endian whole) ∷ []
    marked = ap (λ (x : Ask). before.marks ++ mark x (little_endian (bytes_in s ask)) ∷ []) is ∙ ap (λ (n : ℕ). before.marks ++ mark there n ∷ []) same

    put : written reach ask (little_endian_bytes (number_left kind a (little_endian (bytes_in s ask)))) ≡ written reach there (little_endian_bytes (number_left kind a (little_endian whole)))
    put = ap (λ (x : Ask). written reach x (little_endian_bytes (number_left kind a (little_endian (bytes_in s ask))))) is
        ∙ ap (λ (n : ℕ). written reach there (little_endian_bytes (number_left kind a n))) same
