-- Every history that follows the machine is Written. For proofs only.
use Rattle.std.proofs.Common.{◌≡◌, ℕ, zero, suc, ◌+◌, ◌-◌, ◌%◌, ◌^◌, ◌<◌, ◌≤◌, min, ◌⊎◌, inl, inr, ◌&&◌, ◌||◌, ◌==◌, not, nat_le, arith, Bool, true, false, if◌then◌else◌, length, map, take, List, [], ◌∷◌, Option, None, Some, slice_get, sum_by, is_some, refl, ap, ap₂, sym, subst, ◌∙◌, true≢false}
use Rattle.std.proofs.lemmas.Bool.Decides.{nat_tests}
use Rattle.std.proofs.lemmas.Bool.{and_parts, eqb-true}
use Rattle.std.proofs.lemmas.List.Sums.{sum_by-cons}
use Rattle.std.specs.List.{AllByRecursion, list_all}
use Rattle.std.specs.Option.{option_map_or}
use Rattle.std.specs.Str.{bytes_eq}
use Rattle.ca_law_keys.proofs.Judged.JudgeLemmas.{bytes-refl}
use Rattle.ca_base.specs.Configuration.{Configuration}
use Rattle.ca_base.specs.declared.correspondent.Correspondent.{Correspondent}
use Rattle.ca_base.specs.declared.limits.TheConstants.{MAX_MESSAGE_BYTES, MAX_MESSAGE_PACKETS, MIN_PATH_MTU}
use Rattle.ca_base.specs.declared.request.SendOp.{SendOp}
use Rattle.ca_base.specs.declared.request.SendOp.TheVariants as ops
use Rattle.ca_connection.proofs.LayoutLemmas.{segments-most}
use Rattle.ca_connection.proofs.PassedLemmas.{law-in-order}
use Rattle.ca_connection.specs.Layout.{Direction, first, is_write, psns, segments, start}
use Rattle.ca_connection.specs.Link.{Link, opening}
use Rattle.ca_connection.specs.Moves.{Reached}
use Rattle.ca_connection.specs.Moves.Reached.{begin as reached_begin, move as reached_move}
use Rattle.ca_connection.specs.Once.{falling, numbers_at, passed}
use Rattle.ca_keys.specs.Memory.{ByteMap}
use Rattle.ca_keys.specs.Equal.{queue_eq}
use Rattle.ca_keys.specs.declared.names.QueueId.{QueueId}
use Rattle.ca_law_world.proofs.Sound.SettledLemmas.{queue-path}
use Rattle.ca_model.specs.Entries.{EntryValue}
use Rattle.ca_model.specs.Once.{is_clean_pair}
use Rattle.ca_model.specs.Past.{Naming, Past, Posted, after_entries, after_entry, after_marks, at_begin, correspondent_eq, opening_past}
use Rattle.ca_model.specs.Requests.{list_length, list_of, psns_of}
use Rattle.ca_model.specs.machine.Run.{Follows}
use Rattle.ca_model.specs.machine.Sound.{AreLimited, CanBeMade}
use Rattle.ca_model.specs.machine.World.{World, opening_world}
use Rattle.ca_law_once.proofs.Once.AgreeLemmas.{IsConnection, marks-agree}
use Rattle.ca_law_once.proofs.Once.NoteLemmas.{Among, Grows}
use Rattle.ca_law_once.proofs.Once.OnceLemmas.{IsStarted, connection-started, entry-to-end, next-told}
use Rattle.ca_law_once.proofs.Once.RunLemmas.{Stands, Steps, Walk, walk-along}
use Rattle.ca_law_once.proofs.Once.StepTolds.{ToldAfter}
use Rattle.ca_law_once.specs.Connections.{direction_of, work_posted}
use Rattle.ca_law_once.specs.OnceTold.{IsTold}
use Rattle.ca_law_once.proofs.Rows.LayLemmas.{psns-of-work}
use Rattle.ca_law_once.specs.Agrees.{AgreesWith, acted_by, written_by}
use Rattle.ca_law_once.proofs.Written.CountLemmas.{falling-each, falling-once}
use Rattle.ca_law_once.proofs.Written.ShortLemmas.{AreShort, short-along}
use Rattle.ca_law_once.proofs.Written.DoneLemmas.{IsFull, Known, accepted-few, event-done, falling-length, passed-few, write-no-read}
use Rattle.ca_law_once.proofs.Written.WroteTolds.{event-wrote}
use Rattle.ca_law_once.specs.WrittenTold.{AreWritten, psn_bits}
use Rattle.ca_law_once.specs.Written.{WriteDone, Writes, Wrote, Written, WrittenOnce, each_wrote_once, times_wrote, writes_once, are_all_packets, are_first_packets, each_connection, first_number, no_writes, packet_count, psns_at, psns_falling, wrote_before_success, writes_in_order, writes_of_entries, writes_of_marks}

-- each WRITE of the life that completed with success is full
abbrev AreFull : Direction → Correspondent → List WriteDone → Type 0
AreFull d s xs = (x : WriteDone) → Among x xs → x.own ≡ s → IsFull d x

-- what stands at the end of a history
record Ended (d : Direction) (s : Correspondent) (w : Writes) : Type 0 where
  link : Link
  reached : Reached d link
  written : AreWritten d s w link
  full : AreFull d s w.done

-- the same after all entries
written-along : (c : Configuration) (end : Past) (a b : Naming) (es : List EntryValue) (past : Past) (w : World) (l : Link) (ws : Writes) → IsConnection end a b → end ≡ after_entries es past → Walk c past w es
    → IsTold (direction_of end a b) a.own b.own past w l → AreWritten (direction_of end a b) a.own ws l → AreFull (direction_of end a b) a.own ws.done → Ended (direction_of end a b) a.own (writes_of_entries es past ws)
written-along c end a b [] past w l ws con is walk told written full = record { link = l; reached = told.tied.reached; written = written; full = full }
written-along c end a b (e ∷ es) past w l ws con is walk told written full =
    written-along c end a b es (after_entry e past) v next.after.link new con is walk.1.2 next.told wrote (λ x among own. at x own (event-done d a.own past w l end e.event e.marks ws known steps.meets (steps.found d a.own b.own l told.tied agrees) x own among))
  where
    d : Direction
    d = direction_of end a b

    v : World
    v = walk.1.0

    steps : Steps c past w e.event e.marks v
    steps = walk.1.1

    last : Past
    last = after_marks e.marks (at_begin e.event past)

    new : Writes
    new = writes_of_marks e.marks (at_begin e.event past) ws

    grows : Grows last end
    grows = entry-to-end end e es past is

    agrees : AgreesWith d a.own b.own w e.marks
    agrees = marks-agree end a b con past w e.event walk.0.paths walk.0.posts e.marks grows

    next : ToldAfter d a.own b.own (after_entry e past) w l (acted_by b.own w l e.event e.marks) (written_by b.own w l e.event e.marks) v
    next = next-told c end a b e past w v l con grows walk.0 steps told

    wrote : AreWritten d a.own new next.after.link
    wrote = event-wrote d a.own b.own past w v l e.event e.marks ws next.after told walk.0.paths steps.meets steps.carried steps.judged written

    known : Known d a.own past w l end last ws new
    known = record {
      paths = walk.0.paths;
      posts = walk.0.posts;
      reached = told.tied.reached;
      written = written;
      few = λ place write. omega (
        arith,
        ap length (wrote place ∙ ap (λ x. if x then map psn_bits (numbers_at place next.after.link.acceptances) else []) write),
        accepted-few d next.after.link place next.after.tied.reached write,
      );
      grows = grows;
      work = λ place. refl;
    }

    at : (x : WriteDone) → x.own ≡ a.own → Among x ws.done ⊎ IsFull d x → IsFull d x
    at x own (inl old) = full x old own
    at x own (inr new) = new

-- ---- numbers and PSNs

map-falling : (low n : ℕ) → map psn_bits (falling low n) ≡ psns_falling low n
map-falling low zero = refl
map-falling low (suc n) = ap (λ xs. psn_bits (low + n) ∷ xs) (map-falling low n)

take-more : (f : Posted → ℕ) (ps : List Posted) (k : ℕ) → sum_by f (take (suc k) ps) ≡ sum_by f (take k ps) + option_map_or f (slice_get ps k) 0
take-more f [] zero = refl
take-more f [] (suc k) = refl
take-more f (p ∷ ps) zero = omega (arith, sum_by-cons f p [])
take-more f (p ∷ ps) (suc k) = omega (arith, take-more f ps k, sum_by-cons f p (take (suc k) ps), sum_by-cons f p (take k ps))

psns-posted : (mtu : ℕ) (o : Option Posted) → psns mtu (work_posted o) ≡ option_map_or (λ (p : Posted). psns_of mtu p.request.op) o 0
psns-posted mtu None = refl
psns-posted mtu (Some p) = sym (psns-of-work mtu p.request.op)

first-posted : (d : Direction) (ps : List Posted) → ((k : ℕ) → d.work k ≡ work_posted (slice_get ps k)) → (place : ℕ) → first d place ≡ start d + sum_by (λ (p : Posted). psns_of d.mtu p.request.op) (take place ps)
first-posted d ps work zero = omega arith
first-posted d ps work (suc place) = omega (
  arith,
  first-posted d ps work place,
  take-more (λ (p : Posted). psns_of d.mtu p.request.op) ps place,
  ap (psns d.mtu) (work place) ∙ psns-posted d.mtu (slice_get ps place),
)

first-is : (end : Past) (a b : Naming) (place : ℕ) → first (direction_of end a b) place ≡ first_number end a b place
first-is end a b place = omega (arith, first-posted (direction_of end a b) (end.posted a.own) (λ k. refl) place)

count-is : (end : Past) (a b : Naming) (place : ℕ) → psns b.mtu (work_posted (slice_get (end.posted a.own) place)) ≡ packet_count end a b place
count-is end a b place = psns-posted b.mtu (slice_get (end.posted a.own) place)

le-test : (m n : ℕ) → m ≤ n → nat_le m n ≡ true
le-test m n le = grind (arith, nat_tests)

-- the packets of one request that wrote are its first ones
first-packets : (end : Past) (a b : Naming) (place : ℕ) (ws : Writes) → Ended (direction_of end a b) a.own ws → are_first_packets end a b place (psns_at a.own place ws.wrote) ≡ true
first-packets end a b place ws ended = by (is_write (d.work place)) refl
  where
    d : Direction
    d = direction_of end a b

    of : (xs : List ℕ) (n : ℕ) → xs ≡ psns_falling (first_number end a b place) n → n ≤ packet_count end a b place → are_first_packets end a b place xs ≡ true
    of xs n is few = ap₂ (λ p q. p && q) (le-test (length xs) (packet_count end a b place) (omega (arith, long, few)))
        (ap (λ (m : ℕ). bytes_eq xs (psns_falling (first_number end a b place) m)) long ∙ ap (λ ys. bytes_eq ys (psns_falling (first_number end a b place) n)) is ∙ bytes-refl (psns_falling (first_number end a b place) n))
      where
        long : length xs ≡ n
        long = ap length (is ∙ sym (map-falling (first_number end a b place) n)) ∙ falling-length (first_number end a b place) n

    by : (c : Bool) → is_write (d.work place) ≡ c → are_first_packets end a b place (psns_at a.own place ws.wrote) ≡ true
    by false none = of (psns_at a.own place ws.wrote) zero (ended.written place ∙ ap (λ x. if x then map psn_bits (numbers_at place ended.link.acceptances) else []) none) (omega arith)
    by true write = of (psns_at a.own place ws.wrote) n
        (ended.written place ∙ ap (λ x. if x then map psn_bits (numbers_at place ended.link.acceptances) else []) write
        ∙ ap (map psn_bits) (law-in-order d ended.link place ended.reached (write-no-read (d.work place) write)) ∙ map-falling (first d place) n ∙ ap (λ (low : ℕ). psns_falling low n) (first-is end a b place))
        (omega (arith, passed-few d place ended.link.responder.expected, count-is end a b place))
      where
        n : ℕ
        n = passed d place ended.link.responder.expected

-- the PSNs of a WRITE all of whose packets wrote
full-psns : (end : Past) (a b : Naming) (x : WriteDone) → IsFull (direction_of end a b) x → x.wrote ≡ psns_falling (first_number end a b x.place) (packet_count end a b x.place)
full-psns end a b x full = full ∙ map-falling (first d x.place) (psns d.mtu (d.work x.place)) ∙ ap₂ (λ (low n : ℕ). psns_falling low n) (first-is end a b x.place) (count-is end a b x.place)
  where
    d : Direction
    d = direction_of end a b

-- all packets of a WRITE that completed wrote before
all-packets : (end : Past) (a b : Naming) (x : WriteDone) → IsFull (direction_of end a b) x → are_all_packets end a b x.place x.wrote ≡ true
all-packets end a b x full = ap (λ ys. bytes_eq ys (psns_falling (first_number end a b x.place) (packet_count end a b x.place))) (full-psns end a b x full) ∙ bytes-refl (psns_falling (first_number end a b x.place) (packet_count end a b x.place))

-- the path MTU of a link that moves lead to is one of those that there are
reached-wide : (d : Direction) (l : Link) → Reached d l → MIN_PATH_MTU ≤ d.mtu
reached-wide d l (reached_begin wide) = wide
reached-wide d l (reached_move {l = before} reached moves) = reached-wide d before reached

-- no request has as many packets as there are PSNs
packets-few : (end : Past) (a b : Naming) (place : ℕ) → MIN_PATH_MTU ≤ b.mtu → AreShort end → packet_count end a b place ≤ 2 ^ 24
packets-few end a b place wide short = by (slice_get (end.posted a.own) place) refl
  where
    segments_few : (bytes : ℕ) → bytes ≤ MAX_MESSAGE_BYTES → segments b.mtu bytes ≤ 2 ^ 24
    segments_few bytes few = omega (arith, segments-most b.mtu bytes MAX_MESSAGE_PACKETS MIN_PATH_MTU (omega arith) wide (omega (arith, few)) (omega arith))

    of : (op : SendOp) → list_length (list_of op) ≤ MAX_MESSAGE_BYTES → psns_of b.mtu op ≤ 2 ^ 24
    of (ops.Send list) fits = segments_few (list_length list.items) fits
    of (ops.SendImm imm list) fits = segments_few (list_length list.items) fits
    of (ops.SendInv key list) fits = segments_few (list_length list.items) fits
    of (ops.Write address key list) fits = segments_few (list_length list.items) fits
    of (ops.WriteImm address key imm list) fits = segments_few (list_length list.items) fits
    of (ops.Read address key list) fits = segments_few (list_length list.items) fits
    of (ops.CmpSwap address key compare swap list) fits = omega arith
    of (ops.FetchAdd address key add list) fits = omega arith
    of (ops.Bind1 window region address count rights) fits = omega arith
    of (ops.Bind2 window region low address count rights) fits = omega arith
    of (ops.FastReg region low buffer address count rights pages) fits = omega arith
    of (ops.LocalInv key) fits = omega arith

    by : (o : Option Posted) → slice_get (end.posted a.own) place ≡ o → option_map_or (λ (p : Posted). psns_of b.mtu p.request.op) o 0 ≤ 2 ^ 24
    by None is = omega arith
    by (Some p) is = of p.request.op (short a.own place p is)

-- the PSNs of the packets that wrote
record InOrder (end : Past) (a b : Naming) (place : ℕ) (psns : List ℕ) : Type 0 where
  count : ℕ
  are : psns ≡ psns_falling (first_number end a b place) count
  few : count ≤ packet_count end a b place

in-order : (end : Past) (a b : Naming) (place : ℕ) (ws : Writes) → Ended (direction_of end a b) a.own ws → InOrder end a b place (psns_at a.own place ws.wrote)
in-order end a b place ws ended = by (is_write (d.work place)) refl
  where
    d : Direction
    d = direction_of end a b

    by : (c : Bool) → is_write (d.work place) ≡ c → InOrder end a b place (psns_at a.own place ws.wrote)
    by false none = record { count = zero; are = ended.written place ∙ ap (λ x. if x then map psn_bits (numbers_at place ended.link.acceptances) else []) none; few = omega arith }
    by true write = record {
      count = passed d place ended.link.responder.expected;
      are = ended.written place ∙ ap (λ x. if x then map psn_bits (numbers_at place ended.link.acceptances) else []) write
          ∙ ap (map psn_bits) (law-in-order d ended.link place ended.reached (write-no-read (d.work place) write))
          ∙ map-falling (first d place) (passed d place ended.link.responder.expected) ∙ ap (λ (low : ℕ). psns_falling low (passed d place ended.link.responder.expected)) (first-is end a b place);
      few = omega (arith, passed-few d place ended.link.responder.expected, count-is end a b place);
    }

-- ---- each connection

every-among : {A : Type 0} (test : A → Bool) (xs : List A) → ((x : A) → Among x xs → test x ≡ true) → list_all test xs ≡ true
every-among test [] every = refl
every-among test (x ∷ xs) every = ap₂ (λ a b. a && b) (every x (inl refl)) (every-among test xs (λ y among. every y (inr among)))

each-passes : (past : Past) (own : Correspondent) (test : Naming → Naming → Bool) → ((a b : Naming) → Among a past.namings → Among b past.namings → a.own ≡ own → is_clean_pair past a b ≡ true → test a b ≡ true)
    → each_connection past own test ≡ true
each-passes past own test passes = every-among _ past.namings (λ a a_in. outer a a_in (correspondent_eq a.own own) refl)
  where
    path : (a : Naming) → correspondent_eq a.own own ≡ true → a.own ≡ own
    path a is = let parts = and_parts (queue_eq a.own.queue own.queue) (a.own.incarnation == own.incarnation) is in
        ap₂ (λ (q : QueueId) (i : ℕ). record { queue = q; incarnation = i }) (queue-path a.own.queue own.queue parts.0) (eqb-true a.own.incarnation own.incarnation parts.1)

    inner : (a : Naming) → Among a past.namings → a.own ≡ own → (b : Naming) → Among b past.namings → (c : Bool) → is_clean_pair past a b ≡ c → (not c || test a b) ≡ true
    inner a a_in is b b_in false clean = refl
    inner a a_in is b b_in true clean = passes a b a_in b_in is clean

    outer : (a : Naming) → Among a past.namings → (c : Bool) → correspondent_eq a.own own ≡ c → (not c || list_all (λ b. not (is_clean_pair past a b) || test a b) past.namings) ≡ true
    outer a a_in false is = refl
    outer a a_in true is = every-among (λ b. not (is_clean_pair past a b) || test a b) past.namings (λ b b_in. inner a a_in (path a is) b b_in (is_clean_pair past a b) refl)

-- what stands at the end, of each clean connection
ended-along : (c : Configuration) (bytes : ByteMap) (es : List EntryValue) → AreLimited c → AllByRecursion (λ e. CanBeMade e.event) es → Follows c bytes es
    → (a b : Naming) → Among a (after_entries es (opening_past bytes)).namings → Among b (after_entries es (opening_past bytes)).namings → is_clean_pair (after_entries es (opening_past bytes)) a b ≡ true
    → Ended (direction_of (after_entries es (opening_past bytes)) a b) a.own (writes_of_entries es (opening_past bytes) no_writes)
ended-along c bytes es limited made follows a b a_in b_in clean =
    written-along c end a b es (opening_past bytes) (opening_world bytes) (opening (direction_of end a b)) no_writes started.con refl started.walk started.told
    (λ place. none (is_write ((direction_of end a b).work place))) (λ x no own. absurd no)
  where
    end : Past
    end = after_entries es (opening_past bytes)

    started : IsStarted c bytes es a b
    started = connection-started c bytes es a b limited made follows a_in b_in clean

    nothing : List ℕ
    nothing = []

    none : (c : Bool) → nothing ≡ (if c then map psn_bits nothing else nothing)
    none true = refl
    none false = refl

pub written-whole : (c : Configuration) (bytes : ByteMap) (es : List EntryValue) → AreLimited c → AllByRecursion (λ e. CanBeMade e.event) es → Follows c bytes es → Written bytes es
written-whole c bytes es limited made follows = ap₂ (λ a b. a && b) (every-among (writes_in_order end ws) ws.wrote (λ x among. each-passes end x.own _ (λ a b a_in b_in own clean. ordered x a b (ended a b a_in b_in clean) own)))
    (every-among (wrote_before_success end) ws.done (λ x among. each-passes end x.own _ (λ a b a_in b_in own clean. all-packets end a b x ((ended a b a_in b_in clean).full x among (sym own)))))
  where
    end : Past
    end = after_entries es (opening_past bytes)

    ws : Writes
    ws = writes_of_entries es (opening_past bytes) no_writes

    ended : (a b : Naming) → Among a end.namings → Among b end.namings → is_clean_pair end a b ≡ true → Ended (direction_of end a b) a.own ws
    ended = ended-along c bytes es limited made follows

    ordered : (x : Wrote) (a b : Naming) → Ended (direction_of end a b) a.own ws → a.own ≡ x.own → are_first_packets end a b x.place (psns_at x.own x.place ws.wrote) ≡ true
    ordered x a b done own = ap (λ (o : Correspondent). are_first_packets end a b x.place (psns_at o x.place ws.wrote)) (sym own) ∙ first-packets end a b x.place ws done

-- the same, packet by packet
pub once-whole : (c : Configuration) (bytes : ByteMap) (es : List EntryValue) → AreLimited c → AllByRecursion (λ e. CanBeMade e.event) es → Follows c bytes es → WrittenOnce bytes es
once-whole c bytes es limited made follows = ap₂ (λ a b. a && b) (every-among (writes_once end ws) ws.wrote (λ x among. each-passes end x.own _ (λ a b a_in b_in own clean. once x a b (ended a b a_in b_in clean) own)))
    (every-among (each_wrote_once end) ws.done (λ x among. each-passes end x.own _ (λ a b a_in b_in own clean. each x a b (ended a b a_in b_in clean) ((ended a b a_in b_in clean).full x among (sym own)))))
  where
    end : Past
    end = after_entries es (opening_past bytes)

    ws : Writes
    ws = writes_of_entries es (opening_past bytes) no_writes

    ended : (a b : Naming) → Among a end.namings → Among b end.namings → is_clean_pair end a b ≡ true → Ended (direction_of end a b) a.own ws
    ended = ended-along c bytes es limited made follows

    short : AreShort end
    short = short-along c es (opening_past bytes) (opening_world bytes) (walk-along c bytes es limited made follows) (λ own k x is. absurd (true≢false (sym (ap is_some is))))

    few : (a b : Naming) (place : ℕ) → Ended (direction_of end a b) a.own ws → packet_count end a b place ≤ 2 ^ 24
    few a b place done = packets-few end a b place (reached-wide (direction_of end a b) done.link done.reached) short

    once : (x : Wrote) (a b : Naming) → Ended (direction_of end a b) a.own ws → a.own ≡ x.own → nat_le (times_wrote (psns_at x.own x.place ws.wrote) x.psn) 1 ≡ true
    once x a b done own = le-test (times_wrote (psns_at x.own x.place ws.wrote) x.psn) 1 (omega (
      arith,
      ap (λ (o : Correspondent). times_wrote (psns_at o x.place ws.wrote) x.psn) (sym own) ∙ ap (λ (psns : List ℕ). times_wrote psns x.psn) order.are,
      falling-once (first_number end a b x.place) order.count x.psn (omega (arith, order.few, few a b x.place done)),
    ))
      where
        order : InOrder end a b x.place (psns_at a.own x.place ws.wrote)
        order = in-order end a b x.place ws done

    each : (x : WriteDone) (a b : Naming) → Ended (direction_of end a b) a.own ws → IsFull (direction_of end a b) x
        → list_all (λ psn. times_wrote x.wrote psn == 1) (psns_falling (first_number end a b x.place) (packet_count end a b x.place)) ≡ true
    each x a b done full = every-among (λ psn. times_wrote x.wrote psn == 1) (psns_falling (first_number end a b x.place) (packet_count end a b x.place))
        (λ psn among. ap (λ (psns : List ℕ). times_wrote psns psn == 1) (full-psns end a b x full) ∙ falling-each (first_number end a b x.place) (packet_count end a b x.place) psn (few a b x.place done) among)
