-- A mailbox: the envelopes under way to a queue pair, whom it accepts, and which envelope is due. Contracts cite it.
use Rattle.std.specs.Prelude.{ℕ, suc, ◌-◌, ◌==◌, ◌&&◌, ◌||◌, nat_le, nat_lt, Bool, true, false, not, if◌then◌else◌, List, [], ◌∷◌, filter, length, take, Option, None, Some, slice_get}
use Rattle.std.specs.List.{list_any}
use Rattle.std.specs.Option.{option_map_or, option_and_then, option_or}
use Rattle.ca_base.specs.declared.correspondent.Correspondent.{Correspondent}
use Rattle.ca_base.specs.declared.limits.TheConstants.{KEPT_ENVELOPES, MAX_UNDELIVERED}
use Rattle.ca_base.specs.declared.lot.Lot.{Lot}
use Rattle.ca_base.specs.declared.lot.Lot.TheVariants.{Pass, Lose, Repeat, Hold}
use Rattle.ca_base.specs.declared.mail_envelope.MailEnvelope.{MailEnvelope}
use Rattle.ca_keys.specs.Equal.{queue_eq}

-- the owner's incarnation, the peer that it named, the index of the next envelope, and the envelopes since the mailbox
-- was cleared, the newest first: as many stand before one as were sent after it
pub record Mailbox : Type 0 where
  pub incarnation : ℕ
  pub peer : Option Correspondent
  pub next : ℕ
  pub envelopes : List MailEnvelope

-- before the first queue pair
abbrev pub empty_mailbox : Mailbox
empty_mailbox = record { incarnation = 0; peer = None; next = 0; envelopes = [] }

-- the owner has this incarnation now, and has named this peer, or none
abbrev pub with_peer : ℕ → Option Correspondent → Mailbox → Mailbox
with_peer incarnation peer m = record m { incarnation = incarnation; peer = peer }

-- no envelope is under way; indices go on
abbrev pub without_envelopes : Mailbox → Mailbox
without_envelopes m = record m { envelopes = [] }

-- a packet of this sender for this incarnation of the owner passes: each named the other
abbrev pub passes : Correspondent → ℕ → Mailbox → Bool
passes sender incarnation m = (m.incarnation == incarnation) && option_map_or is_sender m.peer false
  where
    is_sender : Correspondent → Bool
    is_sender p = queue_eq p.queue sender.queue && (p.incarnation == sender.incarnation)

-- how many deliveries an envelope wants
abbrev pub deliveries : Lot → ℕ
deliveries Pass = 1
deliveries Lose = 0
deliveries (Repeat k) = suc k
deliveries (Hold k) = 1

abbrev pub is_lost : Lot → Bool
is_lost Lose = true
is_lost lot = false

abbrev pub is_hold : Lot → Bool
is_hold (Hold k) = true
is_hold lot = false

-- an envelope had fewer deliveries than it wants
abbrev pub is_undelivered : MailEnvelope → Bool
is_undelivered e = nat_lt e.delivered (deliveries e.lot)

-- how many envelopes are undelivered
abbrev pub undelivered_count : List MailEnvelope → ℕ
undelivered_count es = length (filter is_undelivered es)

-- there is room for one more: few enough are undelivered, and the one that would no longer be kept is not
abbrev pub has_room : Mailbox → Bool
has_room m =
    nat_lt (undelivered_count m.envelopes) MAX_UNDELIVERED
    && not (option_map_or is_undelivered (slice_get m.envelopes (KEPT_ENVELOPES - 1)) false)

-- one more envelope was sent
abbrev pub after_send : Lot → List ℕ → Mailbox → Mailbox
after_send lot bytes m = record m {
  next = suc m.next;
  envelopes = take KEPT_ENVELOPES (record { lot = lot; bytes = bytes; delivered = 0 } ∷ m.envelopes);
}

-- how many envelopes were sent after the one of this index
abbrev pub later_than : ℕ → Mailbox → ℕ
later_than index m = m.next - suc index

-- the envelope of an index, if it is kept
abbrev pub envelope_at : ℕ → Mailbox → Option MailEnvelope
envelope_at index m = if nat_lt index m.next then slice_get m.envelopes (later_than index m) else None

-- the bytes of an envelope that can be delivered: one that is kept and was not lost
abbrev pub bytes_lent : ℕ → Mailbox → Option (List ℕ)
bytes_lent index m = option_and_then (λ e. if is_lost e.lot then None else Some e.bytes) (envelope_at index m)

-- the envelopes, of which the one with so many before it was delivered once more
abbrev pub with_delivery : ℕ → List MailEnvelope → List MailEnvelope
with_delivery later [] = []
with_delivery later (e ∷ es) =
    if later == 0 then record e { delivered = suc e.delivered } ∷ es else e ∷ with_delivery (later - 1) es

-- the envelope of an index was delivered once more
abbrev pub after_delivery : ℕ → Mailbox → Mailbox
after_delivery index m = record m { envelopes = with_delivery (later_than index m) m.envelopes }

-- every envelope that is undelivered is held
abbrev pub only_holds : List MailEnvelope → Bool
only_holds es = not (list_any (λ e. is_undelivered e && not (is_hold e.lot)) es)

-- an envelope may be delivered now, where so many later ones were: a held one waits for them, or until all are held
abbrev pub is_ready : Bool → ℕ → Lot → Bool
is_ready all_held later (Hold k) = all_held || nat_le k later
is_ready all_held later lot = true

-- the lowest index that is undelivered and ready, of envelopes of which the first has the index before `next`, and so
-- many later ones were delivered
abbrev pub due_from : Bool → ℕ → ℕ → List MailEnvelope → Option ℕ
due_from all_held next later [] = None
due_from all_held next later (e ∷ es) =
    option_or (due_from all_held (next - 1) (if nat_lt 0 e.delivered then suc later else later) es)
    (if is_undelivered e && is_ready all_held later e.lot then Some (next - 1) else None)

-- the index of the envelope that is due
abbrev pub due : Mailbox → Option ℕ
due m = due_from (only_holds m.envelopes) m.next 0 m.envelopes
