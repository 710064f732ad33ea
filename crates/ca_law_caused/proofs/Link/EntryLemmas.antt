-- Completions pass a test, entry by entry, by the packet that the event brought: none, an injected one, or one that was
-- delivered. For proofs only.
use Rattle.std.proofs.Common.{◌≡◌, ℕ, ◌==◌, ◌&&◌, ◌||◌, not, Bool, true, false, if◌then◌else◌, List, [], ◌∷◌, Option, None, Some, Result, Ok, Err, is_some, refl, ap, sym, subst, ◌∙◌, true≢false}
use Rattle.std.proofs.lemmas.Bool.{and_parts}
use Rattle.std.proofs.lemmas.Option.{same_Some}
use Rattle.std.specs.List.{list_any}
use Rattle.std.specs.Option.{option_and_then, option_map}
use Rattle.std.specs.Result.{result_ok}
use Rattle.ca_law_endings.proofs.InnerLemmas.{AreOwn, IsInner, arrival-inner}
use Rattle.ca_law_endings.proofs.LeadsLemmas.{comes}
use Rattle.ca_law_endings.proofs.MailSentLemmas.{lent-sent}
use Rattle.ca_law_endings.specs.Agreement.{WereSent}
use Rattle.ca_law_endings.specs.Runs.{Comes, Leads}
use Rattle.ca_law_keys.proofs.Posts.PostMade.{life-refl}
use Rattle.ca_base.specs.Configuration.{Configuration}
use Rattle.ca_base.specs.declared.completion.Completion.{Completion}
use Rattle.ca_base.specs.declared.completion.WcStatus.{WcStatus}
use Rattle.ca_base.specs.declared.correspondent.Correspondent.{Correspondent}
use Rattle.ca_base.specs.declared.refusals.OpRefusal.{OpRefusal}
use Rattle.ca_base.specs.objects.Mailbox.{bytes_lent}
use Rattle.ca_law_caused.proofs.Caused.SuchLemmas.{such-does}
use Rattle.ca_law_caused.specs.Causes.{completes_with_cause, has_own_cause}
use Rattle.ca_law_caused.proofs.Link.ArriveLemmas.{leads-injection}
use Rattle.ca_law_caused.proofs.Link.FaultLemmas.{with_arrival}
use Rattle.ca_law_caused.proofs.Link.ToldLemmas.{Behind, IsToldOf, Unheard, own-follow, told-of, unmet-follow}
use Rattle.ca_law_caused.specs.Linked.{completes_so}
use Rattle.ca_keys.specs.Equal.{queue_eq}
use Rattle.ca_keys.specs.declared.names.QueueId.{QueueId}
use Rattle.ca_law_world.proofs.Sound.SettledLemmas.{queue-path}
use Rattle.ca_model.specs.Caused.{Told, told_at_hand}
use Rattle.ca_model.specs.Once.{is_clean, is_not_injected, begins_as_expected}
use Rattle.ca_model.specs.Packets.{packet_of}
use Rattle.ca_model.specs.Past.{Envelope, Naming, Past, after_mark, arrived_at_hand, at_begin, correspondent_eq, each_mark, envelope_sent, injected_bytes, packet_at, present_incarnation}
use Rattle.ca_model.specs.declared.answer.Answer.{Answer}
use Rattle.ca_model.specs.declared.answer.Answer.TheVariants as answers
use Rattle.ca_model.specs.declared.answer.Refusal.TheVariants.{NoSuch}
use Rattle.ca_model.specs.declared.event.Event.{Event}
use Rattle.ca_model.specs.declared.event.Event.TheVariants as events
use Rattle.ca_model.specs.declared.mark.Mark.{Mark}
use Rattle.ca_model.specs.declared.mark.Mark.TheVariants as marks
use Rattle.ca_model.specs.declared.verb.Verb.{Verb}
use Rattle.ca_model.specs.declared.verb.Verb.TheVariants as verbs
use Rattle.ca_model.specs.machine.Plan.{Did, Outcome}
use Rattle.ca_model.specs.machine.Sound.{IsSoundWorld}
use Rattle.ca_model.specs.machine.Step.{plan, step}
use Rattle.ca_model.specs.machine.World.{World}
use Rattle.ca_law_once.proofs.Once.ActedLemmas.{AreUnmet}
use Rattle.ca_law_once.proofs.Once.OnceLemmas.{EndOf, end-of}
use Rattle.ca_law_once.proofs.Once.RunLemmas.{Stands, Steps}
use Rattle.ca_law_once.proofs.Once.ShapeLemmas.{Delivers, Meets, own-unmet}
use Rattle.ca_wire.specs.Decoding.{packet_in}
use Rattle.ca_wire.specs.Packet.{Fields}
use Rattle.ca_wire.specs.declared.wire_error.WireError.{WireError}

-- ---- injections

-- what an injection tells: that it was refused, or that a packet arrived, and marks of a row
pub data Injects (by : ℕ) (name : QueueId) (bytes : List ℕ) (ms : List Mark) : Type 0 where
  refused : (answer : Answer) → ms ≡ marks.Verb by (verbs.Inject name bytes) answer ∷ [] → Injects by name bytes ms
  arrives : (rest : List Mark) → AreOwn rest → ms ≡ marks.Verb by (verbs.Inject name bytes) answers.Fine ∷ (marks.Arrived name None ∷ rest) → Injects by name bytes ms

inject-shape : (c : Configuration) (w : World) (by : ℕ) (name : QueueId) (bytes : List ℕ) → IsSoundWorld c w → Leads w (λ v ms. Injects by name bytes ms) (plan c (events.Verb by (verbs.Inject name bytes)))
inject-shape c w by name bytes sound = (
  λ named. leads-injection c w (λ v ms. Injects by name bytes ms) (λ bytes q e. IsInner q e) (record { by = by; verb = verbs.Inject name bytes }) name bytes sound (refused (answers.Refused NoSuch) refl)
      (λ q shared there. such-does (IsInner q) _ (arrival-inner bytes None shared q))
      (λ q e v there inner has. arrives e.marks inner.marks (ap (λ n. marks.Verb by (verbs.Inject name bytes) answers.Fine ∷ (marks.Arrived n None ∷ e.marks)) there.named)),
  λ none. refused (answers.Refused NoSuch) refl,
)

-- a queue pair at which a packet was injected has no clean connection
pub injected-unclean : (s : Past) (own : Correspondent) → list_any (correspondent_eq own) s.injected ≡ true → is_clean s own ≡ false
injected-unclean s own injected = by (is_clean s own) refl
  where
    by : (b : Bool) → is_clean s own ≡ b → b ≡ false
    by false e = refl
    by true e = absurd (true≢false (sym free ∙ ap (λ l. not (list_any (correspondent_eq l) s.injected)) ends.own_is ∙ ap not injected))
      where
        ends : EndOf s own
        ends = end-of s own e

        a : Naming
        a = ends.a

        b : Naming
        b = ends.b

        front : Bool
        front = not (queue_eq a.own.queue b.own.queue) && correspondent_eq a.peer b.own && correspondent_eq b.peer a.own && (a.mtu == b.mtu) && begins_as_expected s a.own b && begins_as_expected s b.own a

        free : is_not_injected s a.own ≡ true
        free = (and_parts front (is_not_injected s a.own) (and_parts (front && is_not_injected s a.own) (is_not_injected s b.own) ends.clean).0).1

-- ---- the packet at hand

-- which packet a completion's queue pair got
pub record IsGot (s : Past) (n target : QueueId) (index : Option ℕ) (p : Fields) : Type 0 where
  pub target_is : target ≡ n
  pub packet : packet_at s n index ≡ Some p

arrived-some : (s : Past) (n target : QueueId) (index : Option ℕ) (p : Fields) → arrived_at_hand (with_arrival (Some (record { target = target; index = index })) s) n ≡ Some p → IsGot s n target index p
arrived-some s n target index p is = by s.at_hand.dropped (queue_eq target n) refl is
  where
    by : (d b : Bool) → queue_eq target n ≡ b → (if d then None else if b then packet_at s n index else None) ≡ Some p → IsGot s n target index p
    by true b e is = absurd (true≢false (sym (ap is_some is)))
    by false true e is = record { target_is = queue-path target n e; packet = is }
    by false false e is = absurd (true≢false (sym (ap is_some is)))

pub arrived-got : (s : Past) (n target : QueueId) (index : Option ℕ) (p : Fields) → s.at_hand.arrival ≡ Some (record { target = target; index = index }) → arrived_at_hand s n ≡ Some p → IsGot s n target index p
arrived-got s n target index p arrival is = arrived-some s n target index p (sym (ap (λ o. arrived_at_hand (with_arrival o s) n) arrival) ∙ is)

ok-packet : (x : Result Fields WireError) (p : Fields) → result_ok x ≡ Some p → x ≡ Ok p
ok-packet (Ok q) p is = ap (λ x. Ok x) (same_Some q p is)
ok-packet (Err error) p is = absurd (true≢false (sym (ap is_some is)))

-- ---- an entry

-- A response that was delivered in an event, by which a completion is told of its request.
pub record IsDelivered (past : Past) (w : World) (name : QueueId) (index : ℕ) (s : Past) (x : Completion) (t : Told) : Type 0 where
  pub bytes : List ℕ
  pub lent : bytes_lent index (w.mailbox name) ≡ Some bytes
  pub decodes : packet_in bytes ≡ Ok t.packet
  pub own : x.queue ≡ name
  pub told : IsToldOf s x t
  pub behind : Behind (with_arrival s.at_hand.arrival past) s

module _ (c : Configuration) (past : Past) (w : World) (event : Event) (ms : List Mark) (v : World) (stands : Stands c past w) (steps : Steps c past w event ms v) (test : Past → Completion → WcStatus → Bool)
    (untold : (s : Past) (x : Completion) (cause : Option OpRefusal) → told_at_hand s x ≡ None → has_own_cause s x cause x.status ≡ true → test s x x.status ≡ true)
    (unclean : (s : Past) (x : Completion) → is_clean s (present_incarnation s x.queue) ≡ false → test s x x.status ≡ true)
    (delivered : (name : QueueId) (index : ℕ) → event ≡ events.Deliver name index → (s : Past) (x : Completion) (cause : Option OpRefusal) (t : Told) → IsDelivered past w name index s x t → told_at_hand s x ≡ Some t → has_own_cause s x cause x.status ≡ true → test s x x.status ≡ true)
    (own : each_mark completes_with_cause (at_begin event past) ms ≡ true) where
  abbrev pub start : Past
  start = at_begin event past

  unheard : Unheard event start
  unheard = record { event_is = refl; arrival = record {} }

  injected : (by : ℕ) (name : QueueId) (bytes : List ℕ) (answer : Answer) → (rest : List Mark) → AreOwn rest
      → each_mark completes_with_cause (after_mark (marks.Arrived name None) (after_mark (marks.Verb by (verbs.Inject name bytes) answers.Fine) start)) rest ≡ true
      → each_mark (completes_so test) (after_mark (marks.Arrived name None) (after_mark (marks.Verb by (verbs.Inject name bytes) answers.Fine) start)) rest ≡ true
  injected by name bytes answer rest are passes = own-follow test p one rest are passes
    where
      p : Past
      p = after_mark (marks.Arrived name None) (after_mark (marks.Verb by (verbs.Inject name bytes) answers.Fine) start)

      one : (s : Past) (x : Completion) (cause : Option OpRefusal) → Behind p s → has_own_cause s x cause x.status ≡ true → test s x x.status ≡ true
      one s x cause b has = at (told_at_hand s x) refl
        where
          at : (o : Option Told) → told_at_hand s x ≡ o → test s x x.status ≡ true
          at None e = untold s x cause e has
          at (Some t) e = unclean s x (injected-unclean s (present_incarnation s x.queue)
              (subst (λ xs. list_any (correspondent_eq (present_incarnation s x.queue)) xs ≡ true) (sym b.injected)
              (ap (λ z. z || list_any (correspondent_eq (present_incarnation s x.queue)) past.injected) (ap (correspondent_eq (present_incarnation s x.queue)) same ∙ life-refl (present_incarnation s x.queue)))))
            where
              got : IsGot s x.queue name None t.packet
              got = arrived-got s x.queue name None t.packet b.arrival (told-of s x t e).arrived

              same : present_incarnation past name ≡ present_incarnation s x.queue
              same = ap (present_incarnation past) got.target_is ∙ ap (λ (f : QueueId → ℕ). record { queue = x.queue; incarnation = f x.queue }) (sym b.incarnation)

  injects : (by : ℕ) (name : QueueId) (bytes : List ℕ) → (xs : List Mark) → Injects by name bytes xs → each_mark completes_with_cause start xs ≡ true → each_mark (completes_so test) start xs ≡ true
  injects by name bytes xs (refused answer are) passes = subst (λ xs. each_mark (completes_so test) start xs ≡ true) (sym are) refl
  injects by name bytes xs (arrives rest own are) passes = subst (λ xs. each_mark (completes_so test) start xs ≡ true) (sym are)
      (injected by name bytes answers.Fine rest own (subst (λ xs. each_mark completes_with_cause start xs ≡ true) are passes))

  delivers : (name : QueueId) (index : ℕ) → event ≡ events.Deliver name index → Delivers w name index ms → each_mark (completes_so test) start ms ≡ true
  delivers name index is d = subst (λ xs. each_mark (completes_so test) start xs ≡ true) (sym d.are) (own-follow test p one d.rest d.own (subst (λ xs. each_mark completes_with_cause start xs ≡ true) d.are own))
    where
      p : Past
      p = after_mark (marks.Arrived name (Some index)) start

      sent : WereSent past name index d.bytes
      sent = lent-sent c past w name index d.bytes stands.sound stands.paths d.lent

      one : (s : Past) (x : Completion) (cause : Option OpRefusal) → Behind p s → has_own_cause s x cause x.status ≡ true → test s x x.status ≡ true
      one s x cause b has = at (told_at_hand s x) refl
        where
          at : (o : Option Told) → told_at_hand s x ≡ o → test s x x.status ≡ true
          at None e = untold s x cause e has
          at (Some t) e = delivered name index is s x cause t (record {
            bytes = d.bytes;
            lent = d.lent;
            decodes = ok-packet (packet_in d.bytes) t.packet (sym bytes_at ∙ got.packet);
            own = sym got.target_is;
            told = told-of s x t e;
            behind = record { namings = b.namings; starts = b.starts; injected = b.injected; naming = b.naming; incarnation = b.incarnation; posted = b.posted; progress = b.progress; envelopes = b.envelopes; arrival = refl; befall = b.befall };
          }) e has
            where
              got : IsGot s x.queue name (Some index) t.packet
              got = arrived-got s x.queue name (Some index) t.packet b.arrival (told-of s x t e).arrived

              bytes_at : packet_at s x.queue (Some index) ≡ packet_of d.bytes
              bytes_at = ap (λ n. packet_at s n (Some index)) (sym got.target_is)
                  ∙ ap (λ (f : QueueId → List Envelope). option_and_then packet_of (option_map (λ (e : Envelope). e.bytes) (envelope_sent (record past { envelopes = f }) name index))) b.envelopes
                  ∙ ap (λ o. option_and_then packet_of (option_map (λ (e : Envelope). e.bytes) o)) sent.sent ∙ ap packet_of sent.bytes

  pub entry-passes : each_mark (completes_so test) start ms ≡ true
  entry-passes = by event refl
    where
      unmet : (e : Event) → event ≡ e → injected_bytes e ≡ None → AreUnmet ms → each_mark (completes_so test) start ms ≡ true
      unmet e is none all = unmet-follow test event start (ap injected_bytes is ∙ none) unheard untold ms all own

      meets : (e : Event) → event ≡ e → Meets w e ms
      meets e is = subst (λ e. Meets w e ms) is steps.meets

      shape : (b : ℕ) (name : QueueId) (bytes : List ℕ) → event ≡ events.Verb b (verbs.Inject name bytes) → Injects b name bytes ms
      shape b name bytes is = at (step c w (events.Verb b (verbs.Inject name bytes))) (comes w (λ v ms. Injects b name bytes ms) (plan c (events.Verb b (verbs.Inject name bytes))) (inject-shape c w b name bytes stands.sound)) (ap (step c w) (sym is) ∙ steps.comes)
        where
          at : (o : Outcome) → Comes (λ v ms. Injects b name bytes ms) o → o ≡ Did v ms → Injects b name bytes ms
          at o came e = subst (Comes (λ v ms. Injects b name bytes ms)) e came

      verb : (b : ℕ) (x : Verb) → event ≡ events.Verb b x → each_mark (completes_so test) start ms ≡ true
      verb b (verbs.Inject name bytes) is = injects b name bytes ms (shape b name bytes is) own
      verb b (verbs.AllocPd domain) is = unmet (events.Verb b (verbs.AllocPd domain)) is refl (meets _ is).0
      verb b (verbs.DeallocPd domain) is = unmet (events.Verb b (verbs.DeallocPd domain)) is refl (meets _ is).0
      verb b (verbs.RegMr slot buffer offset count rights) is = unmet (events.Verb b (verbs.RegMr slot buffer offset count rights)) is refl (meets _ is).0
      verb b (verbs.AllocMr slot pages) is = unmet (events.Verb b (verbs.AllocMr slot pages)) is refl (meets _ is).0
      verb b (verbs.DeregMr slot) is = unmet (events.Verb b (verbs.DeregMr slot)) is refl (meets _ is).0
      verb b (verbs.AllocMw slot kind) is = unmet (events.Verb b (verbs.AllocMw slot kind)) is refl (meets _ is).0
      verb b (verbs.DeallocMw slot) is = unmet (events.Verb b (verbs.DeallocMw slot)) is refl (meets _ is).0
      verb b (verbs.CreateCq slot capacity) is = unmet (events.Verb b (verbs.CreateCq slot capacity)) is refl (meets _ is).0
      verb b (verbs.DestroyCq slot) is = unmet (events.Verb b (verbs.DestroyCq slot)) is refl (meets _ is).0
      verb b (verbs.CreateSrq slot depth) is = unmet (events.Verb b (verbs.CreateSrq slot depth)) is refl (meets _ is).0
      verb b (verbs.DestroySrq slot) is = unmet (events.Verb b (verbs.DestroySrq slot)) is refl (meets _ is).0
      verb b (verbs.CreateQp slot send_cq recv_cq send_depth recv_depth srq) is = unmet (events.Verb b (verbs.CreateQp slot send_cq recv_cq send_depth recv_depth srq)) is refl (meets _ is).0
      verb b (verbs.ModifyQp slot change) is = unmet (events.Verb b (verbs.ModifyQp slot change)) is refl (meets _ is).0
      verb b (verbs.QueryQp slot) is = unmet (events.Verb b (verbs.QueryQp slot)) is refl (meets _ is).0
      verb b (verbs.DestroyQp slot) is = unmet (events.Verb b (verbs.DestroyQp slot)) is refl (meets _ is).0
      verb b (verbs.PostSend slot request) is = unmet (events.Verb b (verbs.PostSend slot request)) is refl (meets _ is).0
      verb b (verbs.PostRecv slot request) is = unmet (events.Verb b (verbs.PostRecv slot request)) is refl (meets _ is).0
      verb b (verbs.PostSrq slot request) is = unmet (events.Verb b (verbs.PostSrq slot request)) is refl (meets _ is).0
      verb b (verbs.Poll slot n least) is = unmet (events.Verb b (verbs.Poll slot n least)) is refl (meets _ is).0
      verb b (verbs.Store adapter buffer offset bytes) is = unmet (events.Verb b (verbs.Store adapter buffer offset bytes)) is refl (meets _ is).0
      verb b (verbs.Load adapter buffer offset count) is = unmet (events.Verb b (verbs.Load adapter buffer offset count)) is refl (meets _ is).0

      by : (e : Event) → event ≡ e → each_mark (completes_so test) start ms ≡ true
      by (events.Verb b x) is = verb b x is
      by (events.Request name lot) is = unmet (events.Request name lot) is refl (meets (events.Request name lot) is).0
      by (events.Respond name lot) is = unmet (events.Respond name lot) is refl (meets (events.Respond name lot) is).0
      by (events.Timeout name hasten) is = unmet (events.Timeout name hasten) is refl (own-unmet ms (meets (events.Timeout name hasten) is))
      by (events.RnrWake name) is = unmet (events.RnrWake name) is refl (own-unmet ms (meets (events.RnrWake name) is))
      by (events.Deliver name index) is = delivers name index is (meets (events.Deliver name index) is)
