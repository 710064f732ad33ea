-- Licensed: which grants a history may hold, and when a key comes into force and ends. Contracts cite it.
use Rattle.std.specs.Prelude.{ℕ, Bool, true, false, not, ◌&&◌, ◌||◌, ◌==◌, nat_le, ◌+◌, find, List, Option, None, Some, is_none, IsTrue, is_some, [], ◌∷◌}
use Rattle.std.specs.List.{list_any, list_all}
use Rattle.std.specs.Cmp.Lexicographic.{pointwise}
use Rattle.std.specs.Option.{option_map_or, option_eq}
use Rattle.ca_base.specs.declared.completion.Completion.{Completion}
use Rattle.ca_keys.specs.declared.grant.Grant.{Grant}
use Rattle.ca_keys.specs.declared.key.Key.{Key}
use Rattle.ca_keys.specs.declared.names.DomainId.{DomainId}
use Rattle.ca_keys.specs.declared.names.QueueId.{QueueId}
use Rattle.ca_keys.specs.declared.names.Slot.{Slot}
use Rattle.ca_keys.specs.declared.place.Run.{Run}
use Rattle.ca_base.specs.declared.request.SendOp.{SendOp}
use Rattle.ca_base.specs.declared.request.SendOp.TheVariants as ops
use Rattle.ca_keys.specs.declared.rights.Rights.{Rights}
use Rattle.ca_keys.specs.Equal.{key_eq, domain_eq, queue_eq, grant_eq, run_eq}
use Rattle.ca_base.specs.Grants.{grant_of_registration, grant_of_fast_registration, grant_of_bind, next_low, needs_local_write}
use Rattle.ca_keys.specs.Memory.{ByteMap, runs_at}
use Rattle.ca_keys.specs.Numbers.{region_index, window_index, index_of, domain_of}
use Rattle.ca_wire.specs.Packet.{Fields}
use Rattle.ca_model.specs.declared.answer.Answer.{Answer}
use Rattle.ca_model.specs.declared.answer.Answer.TheVariants as answers
use Rattle.ca_model.specs.declared.event.Event.{Event}
use Rattle.ca_model.specs.declared.event.Event.TheVariants as events
use Rattle.ca_model.specs.declared.mark.Mark.{Mark}
use Rattle.ca_model.specs.declared.mark.Mark.TheVariants as marks
use Rattle.ca_model.specs.declared.verb.Verb.{Verb}
use Rattle.ca_model.specs.declared.verb.Verb.TheVariants as verbs
use Rattle.ca_model.specs.Entries.{EntryValue}
use Rattle.ca_model.specs.Packets.{asks_invalidate}
use Rattle.ca_model.specs.Past.{Past, Way, BindTo, FastRegistration, Answered, Posted, opening_past, key_slot_of, key_slot_eq, region_key_slot, slot_beside, operation_at_hand, operation_performed, packet_at, posted_at, is_send_success, after_mark, each_entry}

-- the region's grant in force with this key, in this domain
abbrev pub region_with : Past → DomainId → Key → Option Grant
region_with past domain key = find (λ g. g.local && key_eq g.key key && domain_eq g.domain domain) past.grants

-- a window with these rights over this range may lie in this region
abbrev pub may_hold : Grant → ℕ → ℕ → Rights → Bool
may_hold region address count rights =
    region.rights.window_bind
    && nat_le region.address address && nat_le (address + count) (region.address + region.length)
    && (not (needs_local_write (record rights { local_write = false })) || region.rights.local_write)

-- the low byte that the next registration in a slot takes
abbrev pub fresh_low : Past → Slot → ℕ
fresh_low past slot = next_low (past.low (region_key_slot slot))

-- the bytes of a slot's adapter that a registration names
abbrev pub named_run : Slot → ℕ → ℕ → ℕ → Run
named_run slot buffer offset count = record { adapter = slot.domain.adapter; buffer = buffer; offset = offset; length = count }

-- the grant is what this verb asked for, under the key that it was answered: a registration makes grants, and no other
-- verb does
abbrev pub is_grant_of_verb : Past → Grant → Answered → Bool
is_grant_of_verb past g a = by a.verb a.answer
  where
    by : Verb → Answer → Bool
    by (verbs.RegMr slot buffer offset count rights) (answers.Key key) =
        grant_eq g (grant_of_registration slot (named_run slot buffer offset count) rights (fresh_low past slot)) && key_eq key g.key
    by verb answer = false

-- the grant is that of a bind of this window, under this low byte, to a part of the region with this key
abbrev pub is_grant_of_bind : Past → Grant → Slot → ℕ → Option QueueId → Key → ℕ → ℕ → Rights → Bool
is_grant_of_bind past g slot low queue region address count rights =
    not (count == 0)
    && option_map_or (λ r. may_hold r address count rights && grant_eq g (grant_of_bind slot low queue r address count rights))
    (region_with past slot.domain region) false

-- the grant is what this local operation of a queue pair asked for
abbrev pub is_grant_of_operation : Past → Grant → QueueId → Posted → Bool
is_grant_of_operation past g q p = by p.request.op
  where
    by : SendOp → Bool
    by (ops.FastReg region low buffer address count rights pages) =
        grant_eq g (grant_of_fast_registration (slot_beside q region) low buffer address count rights pages)
    by (ops.Bind1 window region address count rights) =
        option_map_or (λ low. is_grant_of_bind past g (slot_beside q window) low None region address count rights) p.drawn false
    by (ops.Bind2 window region low address count rights) =
        is_grant_of_bind past g (slot_beside q window) low (Some q) region address count rights
    by op = false

-- the grant is what the event at hand asked for
abbrev pub is_grant_at_hand : Past → Grant → Bool
is_grant_at_hand past g = by past.at_hand.event
  where
    by : Event → Bool
    by (events.Verb by' verb) = option_map_or (is_grant_of_verb past g) past.at_hand.answered false
    by (events.Request queue lot) = option_map_or (is_grant_of_operation past g queue) (operation_at_hand past) false
    by event = false

-- a grant in force has this key, at this adapter
abbrev pub grant_with : Past → ℕ → Key → Option Grant
grant_with past adapter key = find (λ g. (g.domain.adapter == adapter) && key_eq g.key key) past.grants

-- no other grant in force has the key slot of this one
abbrev pub is_alone : Past → Grant → Bool
is_alone past g = not (list_any (λ h. key_slot_eq (key_slot_of h) (key_slot_of g)) past.grants)

-- the window's grant lies in this region's grant
abbrev pub lies_in : Grant → Grant → Bool
lies_in window region =
    region.local && domain_eq region.domain window.domain && may_hold region window.address window.length window.rights
    && pointwise run_eq window.runs (runs_at region window.address window.length)

-- a window's grant lies in the grant in force of the region with the key that its bind named
abbrev pub lies_in_its_region : Past → Grant → Bool
lies_in_its_region past w = by (past.way (key_slot_of w))
  where
    by : Way → Bool
    by (BindTo region) = option_map_or (lies_in w) (region_with past w.domain region) false
    by way = false

-- each window's grant in force lies in that of its region
abbrev pub windows_lie_in_regions : Past → Bool
windows_lie_in_regions past = list_all (λ w. w.local || lies_in_its_region past w) past.grants

-- a bound window lies in this region
abbrev pub has_bound_window : Past → Grant → Bool
has_bound_window past region =
    list_any (λ w. not w.local && (w.domain.adapter == region.domain.adapter) && is_bound_to (past.way (key_slot_of w))) past.grants
  where
    is_bound_to : Way → Bool
    is_bound_to (BindTo key) = key_eq key region.key
    is_bound_to way = false

-- the way is a fast registration
abbrev pub is_fast : Way → Bool
is_fast FastRegistration = true
is_fast way = false

-- a queue pair may invalidate this grant: of a region that was fast-registered and has no bound window (that others
-- are left out is this profile's choice), or of a type 2 window that is bound through it
abbrev pub may_invalidate : Past → QueueId → Grant → Bool
may_invalidate past q g =
    (g.local && is_fast (past.way (key_slot_of g)) && not (has_bound_window past g))
    || (not g.local && option_eq queue_eq g.queue (Some q))

-- the grant's key is that of this slot, by this index
abbrev pub is_of_slot : Slot → ℕ → Grant → Bool
is_of_slot slot index g = domain_eq g.domain slot.domain && (index_of g.key == index)

-- this verb ends the grant: a deregistration or a deallocation of its slot that succeeded
abbrev pub ends_by_verb : Verb → Answer → Grant → Bool
ends_by_verb (verbs.DeregMr slot) answers.Fine g = is_of_slot slot (region_index slot) g
ends_by_verb (verbs.DeallocMw slot) answers.Fine g = is_of_slot slot (window_index slot) g
ends_by_verb verb answer g = false

-- this local operation of a queue pair ends the grant: a Local Invalidate of its key, or a bind of its type 1 window
abbrev pub ends_by_operation : Past → Grant → QueueId → Posted → Bool
ends_by_operation past g q p = by p.request.op
  where
    by : SendOp → Bool
    by (ops.LocalInv key) = key_eq key g.key && domain_eq g.domain (domain_of q) && may_invalidate past q g
    by (ops.Bind1 window region address count rights) =
        is_of_slot (slot_beside q window) (window_index (slot_beside q window)) g && is_none g.queue
    by op = false

-- this packet ends the grant: it is the last of a SEND with Invalidate that names its key
abbrev pub ends_by_packet : Past → Grant → QueueId → Fields → Bool
ends_by_packet past g q p =
    asks_invalidate p.opcode && option_eq (λ m n. m == n) p.ieth (Some g.key.0) && domain_eq g.domain (domain_of q) && may_invalidate past q g

-- the packet that arrived in the event at hand ends the grant
abbrev pub ends_by_arrival : Past → Grant → Bool
ends_by_arrival past g =
    option_map_or (λ a. option_map_or (ends_by_packet past g a.target) (packet_at past a.target a.index) false) past.at_hand.arrival false

-- the event at hand ends the grant
abbrev pub ends_at_hand : Past → Grant → Bool
ends_at_hand past g = by past.at_hand.event || ends_by_arrival past g
  where
    by : Event → Bool
    by (events.Verb by' verb) = option_map_or (λ a. ends_by_verb a.verb a.answer g) past.at_hand.answered false
    by (events.Request queue lot) = option_map_or (ends_by_operation past g queue) (operation_at_hand past) false
    by event = false

-- A Granted is what its event asked for, and then the only one of its key slot; a Revoked ends a grant in force, as its
-- event may. At each point each window lies in a region.
abbrev pub is_licensed : Past → Mark → Bool
is_licensed past (marks.Granted g) =
    is_grant_at_hand past g && is_alone past g && windows_lie_in_regions (after_mark (marks.Granted g) past)
is_licensed past (marks.Revoked adapter key) =
    option_map_or (ends_at_hand past) (grant_with past adapter key) false
    && windows_lie_in_regions (after_mark (marks.Revoked adapter key) past)
is_licensed past mark = true

-- a key was revoked in the event at hand, at this adapter
abbrev pub was_revoked : Past → ℕ → Key → Bool
was_revoked past adapter key = list_any (λ r. (r.adapter == adapter) && key_eq r.key key) past.at_hand.revoked

-- a grant of this slot that was in force as the event began was revoked in it
abbrev pub slot_is_revoked : Past → Slot → ℕ → Bool
slot_is_revoked past slot index =
    list_all (λ g. not (is_of_slot slot index g) || was_revoked past g.domain.adapter g.key) past.at_hand.grants_before

-- what was answered has its effect: a registration its grant, a deregistration and a deallocation the end of the grant
abbrev pub is_effective : Past → Answered → Bool
is_effective past a = by a.verb a.answer
  where
    by : Verb → Answer → Bool
    by (verbs.RegMr slot buffer offset count rights) (answers.Key key) = list_any (λ g. key_eq g.key key) past.at_hand.granted
    by (verbs.DeregMr slot) answers.Fine = slot_is_revoked past slot (region_index slot)
    by (verbs.DeallocMw slot) answers.Fine = slot_is_revoked past slot (window_index slot)
    by verb answer = true

-- the request is no Local Invalidate, or its key was revoked in the event at hand
abbrev pub invalidation_is_effective : Past → ℕ → SendOp → Bool
invalidation_is_effective past adapter (ops.LocalInv key) = was_revoked past adapter key
invalidation_is_effective past adapter op = true

-- a Local Invalidate that was performed has ended its key
abbrev pub operation_is_effective : Past → Posted → Bool
operation_is_effective past p = by past.at_hand.event
  where
    by : Event → Bool
    by (events.Request queue lot) = invalidation_is_effective past queue.adapter p.request.op
    by event = true

-- a receive that completed with an invalidated key has ended it, and so has a Local Invalidate that completed with
-- success, in whichever event it did
abbrev pub completion_is_effective : Past → Completion → Bool
completion_is_effective past c =
    option_map_or (was_revoked past c.queue.adapter) c.invalidated true
    && (not (is_send_success c)
    || option_map_or (λ p. invalidation_is_effective past c.queue.adapter p.request.op) (posted_at past c.queue c.place) true)

-- nothing is in a list
abbrev pub is_empty : {A : Type 0} → List A → Bool
is_empty [] = true
is_empty (x ∷ xs) = false

-- in a request's event that performed no local operation no key came into force and none ended
abbrev pub grants_by_performing : Past → Bool
grants_by_performing past = by past.at_hand.event
  where
    by : Event → Bool
    by (events.Request queue lot) =
        is_some (operation_performed past) || (is_empty past.at_hand.granted && is_empty past.at_hand.revoked)
    by event = true

-- the success of an invalidation stands in one event with its Revoked, and that of a registration with its Granted; a
-- local operation that was not performed grants and ends nothing
abbrev pub is_effective_at_end : Past → Bool
is_effective_at_end past =
    option_map_or (is_effective past) past.at_hand.answered true
    && option_map_or (operation_is_effective past) (operation_performed past) true
    && list_all (completion_is_effective past) past.at_hand.completed
    && grants_by_performing past

-- each grant and each end of one is licensed, and each success has its effect
abbrev pub is_licensed_history : ByteMap → List EntryValue → Bool
is_licensed_history bytes es = each_entry is_licensed is_effective_at_end (opening_past bytes) es

abbrev pub Licensed : ByteMap → List EntryValue → Type 0
Licensed bytes es = IsTrue (is_licensed_history bytes es)
