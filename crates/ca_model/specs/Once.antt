-- Once: each atomic of a clean connection acts at most once, and exactly once where it completed with success. Contracts
-- cite it.
use Rattle.std.specs.Prelude.{ℕ, Bool, false, not, ◌&&◌, ◌||◌, ◌==◌, nat_le, List, [], ◌∷◌, slice_get, IsTrue}
use Rattle.std.specs.List.{list_any, list_all, count_by}
use Rattle.std.specs.Option.{option_map_or}
use Rattle.std.specs.Str.{bytes_eq}
use Rattle.ca_base.specs.declared.correspondent.Correspondent.{Correspondent}
use Rattle.ca_keys.specs.Equal.{queue_eq}
use Rattle.ca_keys.specs.Memory.{ByteMap, little_endian_bytes}
use Rattle.ca_model.specs.Entries.{EntryValue}
use Rattle.ca_model.specs.Past.{Past, Naming, Acted, Succeeded, correspondent_eq, is_atomic, opening_past, after_entries}
use Rattle.ca_model.specs.Requests.{operation_of}

-- no Rts that succeeded began this queue pair at another PSN than the other one expects
abbrev pub begins_as_expected : Past → Correspondent → Naming → Bool
begins_as_expected past own peer = list_all (λ s. not (correspondent_eq s.own own) || (s.psn == peer.psn)) past.starts

-- no packet was injected at the queue pair in this incarnation
abbrev pub is_not_injected : Past → Correspondent → Bool
is_not_injected past own = not (list_any (correspondent_eq own) past.injected)

-- two queue pairs name each other with one path MTU, neither began at a PSN that the other does not expect, and no packet
-- was injected at either
abbrev pub is_clean_pair : Past → Naming → Naming → Bool
is_clean_pair past a b =
    not (queue_eq a.own.queue b.own.queue)
    && correspondent_eq a.peer b.own && correspondent_eq b.peer a.own && (a.mtu == b.mtu)
    && begins_as_expected past a.own b && begins_as_expected past b.own a
    && is_not_injected past a.own && is_not_injected past b.own

-- the queue pair in this incarnation is one end of a clean connection
abbrev pub is_clean : Past → Correspondent → Bool
is_clean past own = list_any (λ a. correspondent_eq a.own own && list_any (is_clean_pair past a) past.namings) past.namings

-- an atomic was posted at this place
abbrev pub is_posted_atomic : Past → Correspondent → ℕ → Bool
is_posted_atomic past own place = option_map_or (λ p. is_atomic (operation_of p.request.op)) (slice_get (past.posted own) place) false

-- the atomics that acted for a posted request
abbrev pub times_acted : Past → Correspondent → ℕ → ℕ
times_acted past own place = count_by (λ a. correspondent_eq a.own own && (a.place == place)) past.acted

-- a posted atomic of a clean connection acts at most once
abbrev pub acts_at_most_once : Past → Acted → Bool
acts_at_most_once past a = not (is_clean past a.own && is_posted_atomic past a.own a.place) || nat_le (times_acted past a.own a.place) 1

-- the one number that was found, as eight bytes, least significant first
abbrev pub is_found_alone : List ℕ → List ℕ → Bool
is_found_alone (found ∷ []) put = bytes_eq put (little_endian_bytes found)
is_found_alone found put = false

-- an atomic of a clean connection that completed with success acted exactly once before, and the number that it found
-- was put into its list
abbrev pub acted_before_success : Past → Succeeded → Bool
acted_before_success past s = not (is_clean past s.atomic.own) || is_found_alone s.atomic.found s.put

-- of all that a history has left
abbrev pub is_once : Past → Bool
is_once past = list_all (acts_at_most_once past) past.acted && list_all (acted_before_success past) past.succeeded

abbrev pub is_once_history : ByteMap → List EntryValue → Bool
is_once_history bytes es = is_once (after_entries es (opening_past bytes))

abbrev pub Once : ByteMap → List EntryValue → Type 0
Once bytes es = IsTrue (is_once_history bytes es)
