-- The envelopes that were sent and the entries of a link, after an event. For proofs only.
use Rattle.std.proofs.Common.{◌≡◌, ℕ, zero, suc, ◌+◌, ◌<◌, ◌==◌, ◌⊎◌, inl, inr, arith, true, false, length, List, [], ◌∷◌, map, Option, None, Some, is_some, slice_get, refl, ap, ap₂, sym, subst, ◌∙◌, true≢false}
use Rattle.std.proofs.lemmas.Bool.{and_parts, eqb-true}
use Rattle.std.proofs.lemmas.Option.{same_Some}
use Rattle.std.specs.Option.{option_map_or}
use Rattle.ca_law_endings.proofs.InnerLemmas.{AreInner}
use Rattle.ca_law_endings.proofs.PathLemmas.{SamePaths, inner-past, same-past}
use Rattle.ca_law_endings.specs.Agreement.{PathsAgree, peer_in, peer_named}
use Rattle.ca_law_endings.specs.Indices.{has_its_index}
use Rattle.ca_base.specs.declared.correspondent.Correspondent.{Correspondent}
use Rattle.ca_base.specs.objects.QueuePair.{QueuePair, incarnation_of, is_present}
use Rattle.ca_connection.specs.Layout.{Direction}
use Rattle.ca_connection.specs.Link.{Link, RequestPacket}
use Rattle.ca_keys.specs.Equal.{queue_eq}
use Rattle.ca_keys.specs.declared.names.QueueId.{QueueId}
use Rattle.ca_law_world.proofs.Sound.SettledLemmas.{queue-path}
use Rattle.ca_model.specs.Carried.{has_named, has_path}
use Rattle.ca_model.specs.History.{ArePlain}
use Rattle.ca_model.specs.Past.{Envelope, Naming, Past, after_mark, after_marks, at_begin, correspondent_eq, each_mark, present_incarnation, with_cut}
use Rattle.ca_model.specs.declared.answer.Answer.{Answer}
use Rattle.ca_model.specs.declared.event.Event.{Event}
use Rattle.ca_model.specs.declared.mark.Mark.{Mark}
use Rattle.ca_model.specs.declared.mark.Mark.TheVariants as marks
use Rattle.ca_model.specs.declared.verb.Verb.{Verb}
use Rattle.ca_model.specs.machine.World.{World}
use Rattle.ca_law_once.proofs.Once.MarkLemmas.{IsEntryFor, Origin, SameLives, origin, plain-lives, sent-length, sent-sources, unsent-sources}
use Rattle.ca_law_once.proofs.Once.MarkLemmas.Origin.{old, new}
use Rattle.ca_law_once.proofs.Once.VerbLemmas.{Makes, VerbMail, cut-length, cut-sources, verb-mail}
use Rattle.ca_law_once.proofs.Once.VerbLemmas.VerbMail.{kept as verb_kept, cut as verb_cut, makes as verb_makes}
use Rattle.ca_law_once.specs.OnceTold.{AreSentBy, IsTold, LiesThere}
use Rattle.ca_law_once.proofs.Ties.SendLemmas.{no-path-before, no-path-over}
use Rattle.ca_law_once.specs.Ties.{IsOver, IsPaired, IsSentFor, IsTied, ReceiverTie, RequestsAfter, RequestsTold, SenderTie, TurnAfter, sent_to}
use Rattle.ca_law_once.specs.Ties.ReceiverTie.{before as receiver_before, standing as receiver_standing, gone as receiver_gone}
use Rattle.ca_law_once.specs.Ties.RequestsAfter.{same as requests_same, ended as requests_ended, grown as requests_grown}
use Rattle.ca_law_once.specs.Ties.RequestsTold.{silent as told_silent, kept as told_kept, absent as told_absent, grown as told_grown}
use Rattle.ca_law_once.specs.Ties.SenderTie.{before as sender_before, standing as sender_standing, gone as sender_gone}

-- what is known of an event: what was told before it, that past and world agree before and after it, and that each packet that
-- it sends has its index
pub record Known (d : Direction) (s r : Correspondent) (past : Past) (w : World) (l : Link) (event : Event) (ms : List Mark) (v : World) : Type 0 where
  pub told : IsTold d s r past w l
  pub paths : PathsAgree past w
  pub after : PathsAgree (after_marks ms (at_begin event past)) v
  pub indexed : each_mark has_its_index (at_begin event past) ms ≡ true

-- what is told of envelopes
pub record MailTold (s r : Correspondent) (p : Past) (requests : List (Option RequestPacket)) : Type 0 where
  pub sources : AreSentBy s requests (p.envelopes r.queue)
  pub alone : (n : QueueId) (k : ℕ) (e : Envelope) → slice_get (p.envelopes n) k ≡ Some e → e.cut ≡ false → e.source ≡ s → LiesThere r requests n k

-- ---- paths

pub correspondent-path : (a b : Correspondent) → correspondent_eq a b ≡ true → a ≡ b
correspondent-path a b is = let parts = and_parts (queue_eq a.queue b.queue) (a.incarnation == b.incarnation) is in
    ap₂ (λ q n. record { queue = q; incarnation = n }) (queue-path a.queue b.queue parts.0) (eqb-true a.incarnation b.incarnation parts.1)

-- who has named somebody, in the world
named-peer : (p : Past) (w : World) (a b : QueueId) → PathsAgree p w → has_named p a b ≡ true → peer_in (w.queue a) ≡ Some (present_incarnation p b)
named-peer p w a b agree is = agree.peers a ∙ by (p.naming a) is
  where
    by : (o : Option Naming) → option_map_or (λ n. correspondent_eq n.peer (present_incarnation p b)) o false ≡ true → peer_named o ≡ Some (present_incarnation p b)
    by None is = absurd (true≢false (sym is))
    by (Some n) is = ap (λ x. Some x) (correspondent-path n.peer (present_incarnation p b) is)

-- a path from the life that sends leads to the life that receives
record LeadsThere (d : Direction) (s r : Correspondent) (w : World) (n : QueueId) : Type 0 where
  at : n ≡ r.queue
  queue : QueuePair
  paired : IsPaired d r s (w.queue r.queue) queue

leads-there : (d : Direction) (s r : Correspondent) (p : Past) (w : World) (l : Link) (n : QueueId) → PathsAgree p w → IsTied d s r w l → present_incarnation p s.queue ≡ s → has_path p s.queue n ≡ true → LeadsThere d s r w n
leads-there d s r p w l n agree tied own path = by tied.sender
  where
    parts : (has_named p s.queue n ≡ true) × (has_named p n s.queue ≡ true)
    parts = and_parts (has_named p s.queue n) (has_named p n s.queue) path

    stands : incarnation_of (w.queue s.queue) ≡ s.incarnation
    stands = agree.incarnations s.queue ∙ ap (λ (x : Correspondent). x.incarnation) own

    names : peer_in (w.queue s.queue) ≡ Some (present_incarnation p n)
    names = named-peer p w s.queue n agree parts.0

    there : present_incarnation p n ≡ r → LeadsThere d s r w n
    there is = record { at = at; queue = got.0; paired = got.1 }
      where
        at : n ≡ r.queue
        at = ap (λ (x : Correspondent). x.queue) is

        lives : incarnation_of (w.queue r.queue) ≡ r.incarnation
        lives = ap (λ q. incarnation_of (w.queue q)) (sym at) ∙ agree.incarnations n ∙ ap (λ (x : Correspondent). x.incarnation) is

        back : peer_in (w.queue r.queue) ≡ Some s
        back = ap (λ q. peer_in (w.queue q)) (sym at) ∙ named-peer p w n s.queue agree parts.1 ∙ ap (λ x. Some x) own

        of : ReceiverTie d s r (w.queue r.queue) (w.mailbox r.queue) l.responder l.requests → (t : QueuePair) × IsPaired d r s (w.queue r.queue) t
        of (receiver_before before own none) = absurd (no-path-before r s (w.queue r.queue) before lives back)
        of (receiver_gone over none) = absurd (no-path-over r s (w.queue r.queue) over lives back)
        of (receiver_standing t paired same entries) = (t, paired)

        got : (t : QueuePair) × IsPaired d r s (w.queue r.queue) t
        got = of tied.receiver

    by : SenderTie d s r (w.queue s.queue) (w.mailbox s.queue) l.requester l.responses → LeadsThere d s r w n
    by (sender_before before own none) = absurd (no-path-before s (present_incarnation p n) (w.queue s.queue) before stands names)
    by (sender_gone over none) = absurd (no-path-over s (present_incarnation p n) (w.queue s.queue) over stands names)
    by (sender_standing q paired own entries) = there (same_Some (present_incarnation p n) r (sym names ∙ ap peer_in paired.present ∙ paired.names))

-- where nothing is under way to the life that receives, it does not stand there
unpaired-empty : (d : Direction) (s r : Correspondent) (w : World) (l : Link) → ((t : QueuePair) → IsPaired d r s (w.queue r.queue) t → ⊥) → IsTied d s r w l → l.requests ≡ []
unpaired-empty d s r w l none tied = by tied.receiver
  where
    by : ReceiverTie d s r (w.queue r.queue) (w.mailbox r.queue) l.responder l.requests → l.requests ≡ []
    by (receiver_before is own empty) = empty
    by (receiver_gone is empty) = empty
    by (receiver_standing t paired same entries) = absurd (none t paired)

-- a life that stands, whose incarnation and peer stay, is not over
still-there : (d : Direction) (s r : Correspondent) (past p : Past) (w v : World) (l : Link) (j : ℕ) → PathsAgree past w → PathsAgree p v → IsTied d s r w l → p.incarnation r.queue ≡ past.incarnation r.queue
    → (p.naming r.queue ≡ past.naming r.queue) ⊎ (is_some (p.naming r.queue) ≡ true) → j < length l.requests → IsOver r (v.queue r.queue) → ⊥
still-there d s r past p w v l j paths after tied life naming few over = by tied.receiver
  where
    none : l.requests ≡ [] → ⊥
    none is = omega (arith, few, ap length is)

    by : ReceiverTie d s r (w.queue r.queue) (w.mailbox r.queue) l.responder l.requests → ⊥
    by (receiver_before is own empty) = none empty
    by (receiver_gone is empty) = none empty
    by (receiver_standing t paired same entries) = named (peer_in (v.queue r.queue)) refl
      where
        lives : incarnation_of (v.queue r.queue) ≡ r.incarnation
        lives = after.incarnations r.queue ∙ life ∙ sym (paths.incarnations r.queue) ∙ ap incarnation_of paired.present ∙ paired.incarnation

        had : is_some (peer_named (past.naming r.queue)) ≡ true
        had = ap is_some (sym (paths.peers r.queue) ∙ ap peer_in paired.present ∙ paired.names)

        of : (o : Option Naming) → is_some o ≡ true → is_some (peer_named o) ≡ true
        of None is = is
        of (Some n) is = refl

        has : (p.naming r.queue ≡ past.naming r.queue) ⊎ (is_some (p.naming r.queue) ≡ true) → is_some (peer_in (v.queue r.queue)) ≡ true
        has (inl is) = ap is_some (after.peers r.queue ∙ ap peer_named is) ∙ had
        has (inr is) = ap is_some (after.peers r.queue) ∙ of (p.naming r.queue) is

        named : (o : Option Correspondent) → peer_in (v.queue r.queue) ≡ o → ⊥
        named None is = true≢false (sym (has naming) ∙ ap is_some is)
        named (Some x) is = no-path-over r x (v.queue r.queue) over lives is

-- ---- marks of a turn

-- an envelope of the life that sends was there before, or is sent now to the life that receives, which stands there
data Whence (d : Direction) (s r : Correspondent) (w : World) (requests : List (Option RequestPacket)) (n : QueueId) (count k : ℕ) : Type 0 where
  earlier : (j : ℕ) → LiesThere r requests n j → k ≡ count + j → Whence d s r w requests n count k
  now : n ≡ r.queue → (t : QueuePair) → IsPaired d r s (w.queue r.queue) t → k < count → Whence d s r w requests n count k

whence : (d : Direction) (s r : Correspondent) (past : Past) (w : World) (l : Link) (event : Event) (ms : List Mark) (v : World) → Known d s r past w l event ms v → ArePlain ms → (n : QueueId) (k : ℕ) (e : Envelope)
    → slice_get ((after_marks ms (at_begin event past)).envelopes n) k ≡ Some e → e.cut ≡ false → e.source ≡ s → Whence d s r w l.requests n (length (sent_to n ms)) k
whence d s r past w l event ms v known plain n k e at uncut mine = by (origin n ms (at_begin event past) k e plain known.indexed at)
  where
    queue_is : e.source.queue ≡ s.queue
    queue_is = ap (λ (x : Correspondent). x.queue) mine

    by : Origin (at_begin event past) n (length (sent_to n ms)) k e → Whence d s r w l.requests n (length (sent_to n ms)) k
    by (old j o there cut source place) = earlier j (known.told.alone n j o there (cut ∙ uncut) (source ∙ mine)) place
    by (new less own path) = let to = leads-there d s r past w l n known.paths known.told.tied (ap (present_incarnation past) (sym queue_is) ∙ own ∙ mine) (ap (λ q. has_path past q n) (sym queue_is) ∙ path) in
        now to.at to.queue to.paired less

-- marks that send nothing
pub silent-mail : (d : Direction) (s r : Correspondent) (past : Past) (w : World) (l : Link) (event : Event) (ms : List Mark) (v : World) (requests : List (Option RequestPacket)) → Known d s r past w l event ms v → ArePlain ms
    → ((n : QueueId) → sent_to n ms ≡ []) → RequestsAfter r w v l.requests requests → MailTold s r (after_marks ms (at_begin event past)) requests
silent-mail d s r past w l event ms v requests known plain none after = by after
  where
    p : Past
    p = after_marks ms (at_begin event past)

    lives : SameLives (at_begin event past) p
    lives = plain-lives ms (at_begin event past) plain

    from : (n : QueueId) (k : ℕ) (e : Envelope) → slice_get (p.envelopes n) k ≡ Some e → e.cut ≡ false → e.source ≡ s → LiesThere r l.requests n k
    from n k e at uncut mine = of (whence d s r past w l event ms v known plain n k e at uncut mine)
      where
        of : Whence d s r w l.requests n (length (sent_to n ms)) k → LiesThere r l.requests n k
        of (earlier j lies place) = record { at = lies.at; among = omega (arith, lies.among, place, ap length (none n)) }
        of (now is t paired less) = absurd (omega (arith, less, ap length (none n)))

    by : RequestsAfter r w v l.requests requests → MailTold s r p requests
    by (requests_same is) = record {
      sources = subst (λ xs. AreSentBy s xs (p.envelopes r.queue)) (sym is) (unsent-sources s r.queue l.requests ms (at_begin event past) plain (none r.queue) known.told.sources);
      alone = λ n k e at uncut mine. subst (λ xs. LiesThere r xs n k) (sym is) (from n k e at uncut mine);
    }
    by (requests_ended is there over) = record {
      sources = subst (λ xs. AreSentBy s xs (p.envelopes r.queue)) (sym is) (record {});
      alone = λ n k e at uncut mine. absurd (still-there d s r past p w v l k known.paths known.after known.told.tied (ap (λ (f : QueueId → ℕ). f r.queue) lives.incarnation)
          (inl (ap (λ (f : QueueId → Option Naming). f r.queue) lives.naming)) (from n k e at uncut mine).among over);
    }
    by (requests_grown x is next) =
        absurd (omega (arith, next, known.paths.counts r.queue, known.after.counts r.queue, sent-length r.queue ms (at_begin event past) plain, ap length (none r.queue)))

-- marks of a turn
pub turn-mail : (d : Direction) (s r : Correspondent) (past : Past) (w : World) (l : Link) (event : Event) (ms : List Mark) (v : World) (turn : TurnAfter d s r w l ms v) → Known d s r past w l event ms v → ArePlain ms
    → MailTold s r (after_marks ms (at_begin event past)) turn.after.link.requests
turn-mail d s r past w l event ms v turn known plain = by turn.told
  where
    p : Past
    p = after_marks ms (at_begin event past)

    requests : List (Option RequestPacket)
    requests = turn.after.link.requests

    entry : (x : Option RequestPacket) (source : QueueId) (request : Option ℕ) → IsSentFor s w x source request → IsEntryFor s (at_begin event past) x source request
    entry None source request own = own
    entry (Some x) source request own = (
      ap₂ (λ (q : QueueId) (k : ℕ). record { queue = q; incarnation = k }) own.0 (ap past.incarnation own.0 ∙ sym (known.paths.incarnations s.queue) ∙ own.1),
      own.2,
    )

    by : RequestsTold d s r w ms l.requests requests → MailTold s r p requests
    by (told_silent none) = silent-mail d s r past w l event ms v requests known plain none turn.after.requests
    by (told_kept is none) = record {
      sources = subst (λ xs. AreSentBy s xs (p.envelopes r.queue)) (sym is) (unsent-sources s r.queue l.requests ms (at_begin event past) plain none known.told.sources);
      alone = λ n k e at uncut mine. of n k (whence d s r past w l event ms v known plain n k e at uncut mine);
    }
      where
        of : (n : QueueId) (k : ℕ) → Whence d s r w l.requests n (length (sent_to n ms)) k → LiesThere r requests n k
        of n k (earlier j lies place) = record { at = lies.at; among = omega (arith, lies.among, place, ap (λ q. length (sent_to q ms)) lies.at, ap length none, ap length is) }
        of n k (now there t paired less) = absurd (omega (arith, less, ap (λ q. length (sent_to q ms)) there, ap length none))
    by (told_absent is unpaired) = record {
      sources = subst (λ xs. AreSentBy s xs (p.envelopes r.queue)) (sym (is ∙ empty)) (record {});
      alone = λ n k e at uncut mine. absurd (of n k (whence d s r past w l event ms v known plain n k e at uncut mine));
    }
      where
        empty : l.requests ≡ []
        empty = unpaired-empty d s r w l unpaired known.told.tied

        of : (n : QueueId) (k : ℕ) → Whence d s r w l.requests n (length (sent_to n ms)) k → ⊥
        of n k (earlier j lies place) = omega (arith, lies.among, ap length empty)
        of n k (now there t paired less) = unpaired t paired
    by (told_grown x source request is one own) = record {
      sources = subst (λ xs. AreSentBy s xs (p.envelopes r.queue)) (sym is)
          (sent-sources s r.queue x l.requests source request ms (at_begin event past) plain one (entry x source request own) known.told.sources);
      alone = λ n k e at uncut mine. of n k (whence d s r past w l event ms v known plain n k e at uncut mine);
    }
      where
        of : (n : QueueId) (k : ℕ) → Whence d s r w l.requests n (length (sent_to n ms)) k → LiesThere r requests n k
        of n k (earlier j lies place) = record { at = lies.at; among = omega (arith, lies.among, place, ap (λ q. length (sent_to q ms)) lies.at, ap length one, ap length is) }
        of n k (now there t paired less) = record { at = there; among = omega (arith, less, ap (λ q. length (sent_to q ms)) there, ap length one, ap length is) }

-- ---- marks of a verb

-- an envelope that can still be delivered was not cut
cut-nothing : (es : List Envelope) (k : ℕ) (e : Envelope) → slice_get (map with_cut es) k ≡ Some e → e.cut ≡ false → ⊥
cut-nothing [] k e at uncut = true≢false (sym (ap is_some at))
cut-nothing (x ∷ es) zero e at uncut = true≢false (ap (λ (y : Envelope). y.cut) (same_Some (with_cut x) e at) ∙ uncut)
cut-nothing (x ∷ es) (suc k) e at uncut = cut-nothing es k e at uncut

pub verb-told : (d : Direction) (s r : Correspondent) (past : Past) (w : World) (l : Link) (event : Event) (by : ℕ) (verb : Verb) (answer : Answer) (ms : List Mark) (v : World) (requests : List (Option RequestPacket))
    → Known d s r past w l event (marks.Verb by verb answer ∷ ms) v → AreInner ms → (Makes r.queue verb answer → is_present (w.queue r.queue) ≡ true → ⊥) → RequestsAfter r w v l.requests requests
    → MailTold s r (after_marks (marks.Verb by verb answer ∷ ms) (at_begin event past)) requests
verb-told d s r past w l event by verb answer ms v requests known inner unmade after = told after
  where
    one : Past
    one = after_mark (marks.Verb by verb answer) (at_begin event past)

    p : Past
    p = after_marks ms one

    same : SamePaths one p
    same = inner-past ms inner one one (same-past one)

    mail : (n : QueueId) → VerbMail n (Makes n verb answer) past one
    mail n = of (verb-mail n verb answer (record (at_begin event past) { at_hand = record (at_begin event past).at_hand { answered = Some (record { verb = verb; answer = answer }) } }))
      where
        q : Past
        q = record (at_begin event past) { at_hand = record (at_begin event past).at_hand { answered = Some (record { verb = verb; answer = answer }) } }

        of : VerbMail n (Makes n verb answer) q one → VerbMail n (Makes n verb answer) past one
        of (verb_kept is life naming) = verb_kept is life naming
        of (verb_cut is) = verb_cut is
        of (verb_makes is made) = verb_makes is made

    envelopes : (n : QueueId) → p.envelopes n ≡ one.envelopes n
    envelopes n = ap (λ (f : QueueId → List Envelope). f n) same.envelopes

    sources : AreSentBy s l.requests (p.envelopes r.queue)
    sources = subst (AreSentBy s l.requests) (sym (envelopes r.queue)) (of (mail r.queue))
      where
        of : VerbMail r.queue (Makes r.queue verb answer) past one → AreSentBy s l.requests (one.envelopes r.queue)
        of (verb_kept is life naming) = subst (AreSentBy s l.requests) (sym is) known.told.sources
        of (verb_cut is) = subst (AreSentBy s l.requests) (sym is) (cut-sources s l.requests (past.envelopes r.queue) known.told.sources)
        of (verb_makes is made) = subst (AreSentBy s l.requests) (sym is) known.told.sources

    -- an envelope that is not cut was there before
    was : (n : QueueId) (k : ℕ) (e : Envelope) → slice_get (p.envelopes n) k ≡ Some e → e.cut ≡ false → e.source ≡ s → VerbMail n (Makes n verb answer) past one → LiesThere r l.requests n k
    was n k e at uncut mine (verb_kept is life naming) = known.told.alone n k e (ap (λ es. slice_get es k) (sym (envelopes n ∙ is)) ∙ at) uncut mine
    was n k e at uncut mine (verb_cut is) = absurd (cut-nothing (past.envelopes n) k e (ap (λ es. slice_get es k) (sym (envelopes n ∙ is)) ∙ at) uncut)
    was n k e at uncut mine (verb_makes is made) = known.told.alone n k e (ap (λ es. slice_get es k) (sym (envelopes n ∙ is)) ∙ at) uncut mine

    counts : length (p.envelopes r.queue) ≡ length (past.envelopes r.queue)
    counts = ap length (envelopes r.queue) ∙ of (mail r.queue)
      where
        of : VerbMail r.queue (Makes r.queue verb answer) past one → length (one.envelopes r.queue) ≡ length (past.envelopes r.queue)
        of (verb_kept is life naming) = ap length is
        of (verb_cut is) = ap length is ∙ cut-length (past.envelopes r.queue)
        of (verb_makes is made) = ap length is

    told : RequestsAfter r w v l.requests requests → MailTold s r p requests
    told (requests_same is) = record {
      sources = subst (λ xs. AreSentBy s xs (p.envelopes r.queue)) (sym is) sources;
      alone = λ n k e at uncut mine. subst (λ xs. LiesThere r xs n k) (sym is) (was n k e at uncut mine (mail n));
    }
    told (requests_ended is there over) = record {
      sources = subst (λ xs. AreSentBy s xs (p.envelopes r.queue)) (sym is) (record {});
      alone = λ n k e at uncut mine. absurd (never n k e at uncut mine);
    }
      where
        never : (n : QueueId) (k : ℕ) (e : Envelope) → slice_get (p.envelopes n) k ≡ Some e → e.cut ≡ false → e.source ≡ s → ⊥
        never n k e at uncut mine = of (mail r.queue)
          where
            lies : LiesThere r l.requests n k
            lies = was n k e at uncut mine (mail n)

            of : VerbMail r.queue (Makes r.queue verb answer) past one → ⊥
            of (verb_kept same_mail life naming) = still-there d s r past p w v l k known.paths known.after known.told.tied
                (ap (λ (f : QueueId → ℕ). f r.queue) same.incarnation ∙ life) (still naming) lies.among over
              where
                still : (one.naming r.queue ≡ past.naming r.queue) ⊎ (is_some (one.naming r.queue) ≡ true) → (p.naming r.queue ≡ past.naming r.queue) ⊎ (is_some (p.naming r.queue) ≡ true)
                still (inl e) = inl (ap (λ (f : QueueId → Option Naming). f r.queue) same.naming ∙ e)
                still (inr e) = inr (ap (λ (f : QueueId → Option Naming). is_some (f r.queue)) same.naming ∙ e)
            of (verb_cut cut) = cut-nothing (past.envelopes r.queue) k e (ap (λ es. slice_get es k) (sym (envelopes r.queue ∙ cut)) ∙ ap (λ q. slice_get (p.envelopes q) k) (sym lies.at) ∙ at) uncut
            of (verb_makes same_mail made) = unmade made there
    told (requests_grown x is next) = absurd (omega (arith, next, known.paths.counts r.queue, known.after.counts r.queue, counts))
