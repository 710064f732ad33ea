-- An event of a history agrees with each direction of a connection that is clean at its end. For proofs only.
use Rattle.std.proofs.Common.{◌≡◌, ℕ, arith, ◌&&◌, ◌||◌, ◌==◌, ◌++◌, not, Bool, true, false, if◌then◌else◌, length, List, [], ◌∷◌, Option, Some, slice_get, inl, refl, ap, ap₂, sym, ◌∙◌, true≢false}
use Rattle.std.proofs.lemmas.Bool.{and_parts, eqb-true}
use Rattle.std.proofs.lemmas.Bool.Decides.{nat_tests}
use Rattle.std.specs.List.{list_any}
use Rattle.ca_law_endings.specs.Agreement.{PathsAgree}
use Rattle.ca_law_keys.specs.Posts.{AgreeInSlot, PostsAgree, life}
use Rattle.ca_base.specs.declared.change.Change.{Change}
use Rattle.ca_base.specs.declared.change.Change.TheVariants as changes
use Rattle.ca_base.specs.declared.correspondent.Correspondent.{Correspondent}
use Rattle.ca_base.specs.declared.request.SendRequest.{SendRequest}
use Rattle.ca_base.specs.objects.QueuePair.{QueueSlot, NoQueue, Present}
use Rattle.ca_keys.specs.Numbers.{queue_of}
use Rattle.ca_keys.specs.declared.key.Key.{Key}
use Rattle.ca_keys.specs.Equal.{queue_eq}
use Rattle.ca_keys.specs.declared.names.QueueId.{QueueId}
use Rattle.ca_keys.specs.declared.names.Slot.{Slot}
use Rattle.ca_law_world.proofs.Sound.SettledLemmas.{queue-path, queue-refl}
use Rattle.ca_model.specs.Once.{begins_as_expected, is_clean_pair, is_not_injected}
use Rattle.ca_model.specs.Past.{Naming, Past, Posted, Start, after_mark, after_marks, at_begin, correspondent_eq, drawn_at, present_incarnation}
use Rattle.ca_model.specs.declared.answer.Answer.{Answer}
use Rattle.ca_model.specs.declared.answer.Answer.TheVariants as answers
use Rattle.ca_model.specs.declared.event.Event.{Event}
use Rattle.ca_model.specs.declared.mark.Mark.{Mark}
use Rattle.ca_model.specs.declared.mark.Mark.TheVariants as marks
use Rattle.ca_model.specs.declared.verb.Verb.{Verb}
use Rattle.ca_model.specs.declared.verb.Verb.TheVariants as verbs
use Rattle.ca_model.specs.machine.World.{World}
use Rattle.ca_law_once.proofs.Once.MailTolds.{correspondent-path}
use Rattle.ca_law_once.proofs.Once.NoteLemmas.{Among, Grows, all-pass, grows-then, last-get, marks-grow, none-passes}
use Rattle.ca_law_once.specs.Connections.{direction_of, work_posted}
use Rattle.ca_law_once.specs.Agrees.{AgreesWith, AnswerAgrees, ChangeAgrees, IsInLife, PostAgrees, RtrAgrees}

-- a clean connection, part by part, and that no life of the past has two Rtr
pub record IsConnection (past : Past) (a b : Naming) : Type 0 where
  pub a_in : Among a past.namings
  pub b_in : Among b past.namings
  pub a_names : a.peer ≡ b.own
  pub b_names : b.peer ≡ a.own
  pub mtu : a.mtu ≡ b.mtu
  pub begins : begins_as_expected past a.own b ≡ true
  pub a_free : is_not_injected past a.own ≡ true
  pub b_free : is_not_injected past b.own ≡ true
  pub unique : (x y : Naming) → Among x past.namings → Among y past.namings → x.own ≡ y.own → x ≡ y

pub clean-connection : (past : Past) (a b : Naming) → Among a past.namings → Among b past.namings → ((x y : Naming) → Among x past.namings → Among y past.namings → x.own ≡ y.own → x ≡ y) → is_clean_pair past a b ≡ true → IsConnection past a b
clean-connection past a b a_in b_in unique clean = record {
  a_in = a_in;
  b_in = b_in;
  a_names = correspondent-path a.peer b.own p0.1;
  b_names = correspondent-path b.peer a.own p1.1;
  mtu = eqb-true a.mtu b.mtu p2.1;
  begins = p3.1;
  a_free = p5.1;
  b_free = p6.1;
  unique = unique;
}
  where
    t0 : Bool
    t0 = not (queue_eq a.own.queue b.own.queue)

    t1 : Bool
    t1 = correspondent_eq a.peer b.own

    t2 : Bool
    t2 = correspondent_eq b.peer a.own

    t3 : Bool
    t3 = a.mtu == b.mtu

    t4 : Bool
    t4 = begins_as_expected past a.own b

    t5 : Bool
    t5 = begins_as_expected past b.own a

    t6 : Bool
    t6 = is_not_injected past a.own

    t7 : Bool
    t7 = is_not_injected past b.own

    p6 : ((t0 && t1 && t2 && t3 && t4 && t5 && t6) ≡ true) × (t7 ≡ true)
    p6 = and_parts (t0 && t1 && t2 && t3 && t4 && t5 && t6) t7 clean

    p5 : ((t0 && t1 && t2 && t3 && t4 && t5) ≡ true) × (t6 ≡ true)
    p5 = and_parts (t0 && t1 && t2 && t3 && t4 && t5) t6 p6.0

    p4 : ((t0 && t1 && t2 && t3 && t4) ≡ true) × (t5 ≡ true)
    p4 = and_parts (t0 && t1 && t2 && t3 && t4) t5 p5.0

    p3 : ((t0 && t1 && t2 && t3) ≡ true) × (t4 ≡ true)
    p3 = and_parts (t0 && t1 && t2 && t3) t4 p4.0

    p2 : ((t0 && t1 && t2) ≡ true) × (t3 ≡ true)
    p2 = and_parts (t0 && t1 && t2) t3 p3.0

    p1 : ((t0 && t1) ≡ true) × (t2 ≡ true)
    p1 = and_parts (t0 && t1) t2 p2.0

    p0 : (t0 ≡ true) × (t1 ≡ true)
    p0 = and_parts t0 t1 p1.0

same-number : (m n : ℕ) → m ≡ n → (m == n) ≡ true
same-number m n same = grind (arith, nat_tests)

correspondent-same : (a b : Correspondent) → a ≡ b → correspondent_eq a b ≡ true
correspondent-same a b same = ap (correspondent_eq a) (sym same) ∙ ap₂ (λ x y. x && y) (queue-refl a.queue) (same-number a.incarnation a.incarnation refl)

-- a queue pair that is in a life is the life that the past counts
in-life : (past : Past) (w : World) (own : Correspondent) (name : QueueId) → PathsAgree past w → IsInLife w own name → present_incarnation past name ≡ own
in-life past w own name agree is = ap₂ (λ q n. record { queue = q; incarnation = n }) (queue-path name own.queue is.named) (sym (agree.incarnations name) ∙ is.incarnation)

not-either : (a b : Bool) → (not a || b) ≡ true → a ≡ true → b ≡ true
not-either true b is one = is
not-either false b is one = absurd (true≢false (sym one))

not-injected : (b : Bool) → not b ≡ true → b ≡ false
not-injected true is = absurd (true≢false (sym is))
not-injected false is = refl

module _ (end : Past) (a b : Naming) (con : IsConnection end a b) (past : Past) (w : World) (event : Event) (agree : PathsAgree past w) (posts : PostsAgree past w) where
  rtr-agrees : (by : ℕ) (slot : Slot) (peer : QueueId) (incarnation psn mtu rnr_code : ℕ) → Grows (after_mark (marks.Verb by (verbs.ModifyQp slot (changes.Rtr peer incarnation psn mtu rnr_code)) answers.Fine) (at_begin event past)) end
      → RtrAgrees (direction_of end a b) a.own b.own w (queue_of slot) peer incarnation psn mtu
  rtr-agrees by slot peer incarnation psn mtu rnr_code grows = record {
    sender = λ life. let is = con.unique new a noted con.a_in (in-life past w a.own (queue_of slot) agree life) in record {
      names = ap (λ (x : Naming). x.peer) is ∙ con.a_names;
      same_mtu = ap (λ (x : Naming). x.mtu) is ∙ con.mtu;
    };
    receiver = λ life. let is = con.unique new b noted con.b_in (in-life past w b.own (queue_of slot) agree life) in record {
      names = ap (λ (x : Naming). x.peer) is ∙ con.b_names;
      same_mtu = ap (λ (x : Naming). x.mtu) is;
      same_psn = ap (λ (x : Naming). x.psn) is;
    };
  }
    where
      new : Naming
      new = record { own = present_incarnation past (queue_of slot); peer = record { queue = peer; incarnation = incarnation }; psn = psn; mtu = mtu }

      noted : Among new end.namings
      noted = grows.namings new (inl refl)

  rts-agrees : (by : ℕ) (slot : Slot) (psn retry rnr_retry reads : ℕ) → Grows (after_mark (marks.Verb by (verbs.ModifyQp slot (changes.Rts psn retry rnr_retry reads)) answers.Fine) (at_begin event past)) end
      → IsInLife w a.own (queue_of slot) → psn ≡ b.psn
  rts-agrees by slot psn retry rnr_retry reads grows life = eqb-true psn b.psn (not-either (correspondent_eq new.own a.own) (psn == b.psn)
      (all-pass (λ s. not (correspondent_eq s.own a.own) || (s.psn == b.psn)) end.starts new con.begins (grows.starts new (inl refl)))
      (correspondent-same new.own a.own (in-life past w a.own (queue_of slot) agree life)))
    where
      new : Start
      new = record { own = present_incarnation past (queue_of slot); psn = psn; retry = retry; rnr_retry = rnr_retry }

  post-agrees : (by : ℕ) (slot : Slot) (request : SendRequest) (key : Option Key) → Grows (after_mark (marks.Verb by (verbs.PostSend slot request) (answers.Posted key)) (at_begin event past)) end
      → IsInLife w a.own (queue_of slot) → PostAgrees (direction_of end a b) request.op (w.queue (queue_of slot))
  post-agrees by slot request key grows life_is = at (w.queue n) (posts.sends n)
    where
      n : QueueId
      n = queue_of slot

      own : Correspondent
      own = present_incarnation past n

      own_is : own ≡ a.own
      own_is = in-life past w a.own n agree life_is

      new : Posted
      new = record { place = length (past.posted own); request = request; drawn = drawn_at past n request.op key }

      there : slice_get (end.posted a.own) (length (past.posted own)) ≡ Some new
      there = grows.posted a.own (length (past.posted own)) new
          (ap (λ c. slice_get (if c then past.posted own ++ new ∷ [] else past.posted a.own) (length (past.posted own))) (correspondent-same own a.own own_is) ∙ last-get (past.posted own) new)

      at : (s : QueueSlot) → AgreeInSlot (past.posted own) (past.performed own) s → PostAgrees (direction_of end a b) request.op s
      at (NoQueue incarnation timers) is = record {}
      at (Present q) is = ap (λ k. work_posted (slice_get (end.posted a.own) k)) is.count ∙ ap work_posted there

  inject-agrees : (by : ℕ) (queue : QueueId) (bytes : List ℕ) (own : Correspondent) → is_not_injected end own ≡ true → Grows (after_mark (marks.Verb by (verbs.Inject queue bytes) answers.Fine) (at_begin event past)) end
      → IsInLife w own queue → ⊥
  inject-agrees by queue bytes own free grows life = none-passes (correspondent_eq own) end.injected (present_incarnation past queue) (not-injected (list_any (correspondent_eq own) end.injected) free)
      (grows.injected (present_incarnation past queue) (inl refl)) (correspondent-same own (present_incarnation past queue) (sym (in-life past w own queue agree life)))

  change-agrees : (by : ℕ) (slot : Slot) (change : Change) → Grows (after_mark (marks.Verb by (verbs.ModifyQp slot change) answers.Fine) (at_begin event past)) end
      → ChangeAgrees (direction_of end a b) a.own b.own w (queue_of slot) change
  change-agrees by slot changes.Reset grows = record {}
  change-agrees by slot changes.Init grows = record {}
  change-agrees by slot (changes.Rtr peer incarnation psn mtu rnr_code) grows = rtr-agrees by slot peer incarnation psn mtu rnr_code grows
  change-agrees by slot (changes.Rts psn retry rnr_retry reads) grows = rts-agrees by slot psn retry rnr_retry reads grows
  change-agrees by slot changes.Sqd grows = record {}
  change-agrees by slot changes.Resume grows = record {}
  change-agrees by slot changes.Error grows = record {}

  answer-agrees : (by : ℕ) (verb : Verb) (answer : Answer) → Grows (after_mark (marks.Verb by verb answer) (at_begin event past)) end → AnswerAgrees (direction_of end a b) a.own b.own w verb answer
  answer-agrees by (verbs.ModifyQp slot change) answers.Fine grows = change-agrees by slot change grows
  answer-agrees by (verbs.PostSend slot request) (answers.Posted key) grows = post-agrees by slot request key grows
  answer-agrees by (verbs.Inject queue bytes) answers.Fine grows = record {
    sender = λ life. inject-agrees by queue bytes a.own con.a_free grows life;
    receiver = λ life. inject-agrees by queue bytes b.own con.b_free grows life;
  }
  answer-agrees by verb answer grows = record {}

  pub marks-agree : (ms : List Mark) → Grows (after_marks ms (at_begin event past)) end → AgreesWith (direction_of end a b) a.own b.own w ms
  marks-agree [] grows = record {}
  marks-agree (marks.Verb by verb answer ∷ ms) grows = answer-agrees by verb answer
      (grows-then (after_mark (marks.Verb by verb answer) (at_begin event past)) (after_marks ms (after_mark (marks.Verb by verb answer) (at_begin event past))) end (marks-grow ms (after_mark (marks.Verb by verb answer) (at_begin event past))) grows)
  marks-agree (marks.Granted g ∷ ms) grows = record {}
  marks-agree (marks.Revoked adapter key ∷ ms) grows = record {}
  marks-agree (marks.Remote queue domain envelope key kind address count verdict ∷ ms) grows = record {}
  marks-agree (marks.Local queue domain key kind address count verdict ∷ ms) grows = record {}
  marks-agree (marks.Stored place bytes ∷ ms) grows = record {}
  marks-agree (marks.Sent source target index request bytes ∷ ms) grows = record {}
  marks-agree (marks.Lost target index ∷ ms) grows = record {}
  marks-agree (marks.Arrived target index ∷ ms) grows = record {}
  marks-agree (marks.Dropped target cause ∷ ms) grows = record {}
  marks-agree (marks.Timer queue silent ∷ ms) grows = record {}
  marks-agree (marks.Done queue x cause ∷ ms) grows = record {}
