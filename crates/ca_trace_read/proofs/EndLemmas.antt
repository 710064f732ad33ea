-- Lines that a reader took begin the text of a history, and where it stands behind the last line they are one.
use Rattle.std.proofs.Common.{◌≡◌, ℕ, zero, suc, ◌^◌, ◌<◌, Bool, true, false, cond, eqb, List, [], ◌∷◌, ◌++◌, None, length, refl, sym, ap, subst, ◌∙◌, arith, append_assoc}
use Rattle.std.specs.List.{flat_map, AllByRecursion}
use Rattle.std.proofs.lemmas.List.{append-nil}
use Rattle.std.proofs.lemmas.List.Concat.{flat_map-append}
use Rattle.ca_base.specs.declared.completion.Completion.{Completion}
use Rattle.ca_base.specs.declared.completion.WcOp.TheVariants as operations
use Rattle.ca_base.specs.declared.completion.WcStatus.TheVariants as statuses
use Rattle.ca_model.specs.Entries.{EntryValue}
use Rattle.ca_trace.specs.declared.line.Line.{Line}
use Rattle.ca_trace.specs.declared.line.Line.TheVariants as lines
use Rattle.ca_trace.specs.Lines.{line_text, lines_text, entry_lines, history_lines}
use Rattle.ca_trace.specs.Trace.{text}
use Rattle.ca_trace_read_fits.specs.ca_trace_read_lines.Fits.{LineFits}
use Rattle.ca_trace_read_fits.specs.Histories.{EntryFits, HistoryFits}
use Rattle.ca_trace_read.specs.declared.progress.OpenPoll.{OpenPoll}
use Rattle.ca_trace_read.specs.Steps.{Stage, Start, Polling, Open, Over, Stopped, Reading, polled, polling, start}
use Rattle.ca_trace_read.specs.Taken.{AreTaken, lined}
use Rattle.ca_trace_read.specs.Outside.{BeginsText}
use Rattle.ca_trace_read.proofs.TextLemmas.{history_text}
use Rattle.ca_trace_read.proofs.SplitLemmas.{lined_lines, fit_front, fit_back}
use Rattle.ca_trace_read_fits.proofs.HistoryLemmas.{fit_both}
use Rattle.ca_trace_read.proofs.ReachLemmas.{IsBehind, run_stands, got_place, next_poll, end_place}

abbrev a_completion : Completion
a_completion = record {
  id = 0;
  queue = record { adapter = 0; number = 0 };
  receive = false;
  place = 0;
  status = statuses.Success;
  op = operations.Send;
  bytes = 0;
  imm = None;
  invalidated = None;
}

got_fits : LineFits (lines.Got a_completion)
got_fits = (tt, (refl, (refl, ((omega arith, omega arith), (tt, (omega arith, (omega arith, (tt, (tt, (omega arith, (tt, (tt, tt))))))))))))

-- lines that lead to the end of an entry
record LeadsToEntry (ls : List Line) (n : ℕ) (es : List EntryValue) : Type 0 where
  pub more : List Line
  pub fit : AllByRecursion LineFits more
  pub entry : EntryValue
  pub behind : IsBehind (ls ++ more) n (Open entry) es

poll_more : (w n : ℕ) → ((ls : List Line) (p : OpenPoll) (es : List EntryValue) → p.wanted ≡ w → IsBehind ls n (Polling p) es → LeadsToEntry ls n es)
    → (ls : List Line) (p : OpenPoll) (es : List EntryValue) (b : Bool) → p.wanted ≡ w → IsBehind ls n (cond b (Open (polled p p.given)) (Polling p)) es → LeadsToEntry ls n es
poll_more w n ends ls p es true e g = record { more = []; fit = tt; entry = polled p p.given; behind = rw (append-nil ls) g }
poll_more w n ends ls p es false e g = ends ls p es e g

poll_ends : (w n : ℕ) (ls : List Line) (p : OpenPoll) (es : List EntryValue) → p.wanted ≡ w → IsBehind ls n (Polling p) es → LeadsToEntry ls n es
poll_ends zero n ls p es e h = absurd (omega (arith, h.place.2))
poll_ends (suc w) n ls p es e h =
    let l : Line = lines.Got a_completion in
    let next : OpenPoll = next_poll p a_completion in
    let less : next.wanted ≡ w = omega arith in
    let there : IsBehind (ls ++ l ∷ []) n (polling next) es = subst (λ (x : List EntryValue). IsBehind (ls ++ l ∷ []) n (polling next) x) (append-nil es) (got_place ls n p a_completion es h) in
    let rest = poll_more w n (λ ls p es. poll_ends w n ls p es) (ls ++ l ∷ []) next es (eqb next.wanted 0) less there in
    record {
      more = l ∷ rest.more;
      fit = (got_fits, rest.fit);
      entry = rest.entry;
      behind = subst (λ (x : List Line). IsBehind x n (Open rest.entry) es) (append_assoc ls (l ∷ []) rest.more) rest.behind;
    }

-- lines that lead to the end of a text
record LeadsToEnd (ls : List Line) (n : ℕ) : Type 0 where
  pub more : List Line
  pub fit : AllByRecursion LineFits more
  pub entries : List EntryValue
  pub behind : IsBehind (ls ++ more) n Over entries

end_fits : (n : ℕ) → n < 2 ^ 64 → LineFits (lines.End n)
end_fits n h = (tt, (refl, (omega arith, tt)))

entry_ends : (ls : List Line) (n : ℕ) (e : EntryValue) (es : List EntryValue) → IsBehind ls n (Open e) es → LeadsToEnd ls n
entry_ends ls n e es h = record { more = lines.End n ∷ []; fit = (end_fits n h.few, tt); entries = es ++ e ∷ []; behind = end_place ls n (Open e) es h refl }

can_end : (ls : List Line) (n : ℕ) (stage : Stage) (es : List EntryValue) → IsBehind ls n stage es → LeadsToEnd ls n
can_end ls n Start es h = record { more = lines.End n ∷ []; fit = (end_fits n h.few, tt); entries = es ++ []; behind = end_place ls n Start es h refl }
can_end ls n (Open e) es h = entry_ends ls n e es h
can_end ls n Over es h = record { more = []; fit = tt; entries = es; behind = rw (append-nil ls) h }
can_end ls n Stopped es h = absurd h.place
can_end ls n (Polling p) es h =
    let first = poll_ends p.wanted n ls p es refl h in
    let rest = entry_ends (ls ++ first.more) n first.entry es first.behind in
    record {
      more = first.more ++ rest.more;
      fit = fit_both first.more rest.more first.fit rest.fit;
      entries = rest.entries;
      behind = subst (λ (x : List Line). IsBehind x n Over rest.entries) (append_assoc ls first.more rest.more) rest.behind;
    }

each_fits : (es : List EntryValue) → AllByRecursion LineFits (flat_map entry_lines es) → AllByRecursion EntryFits es
each_fits [] h = tt
each_fits (e ∷ es) h = (fit_front (entry_lines e) (flat_map entry_lines es) h, each_fits es (fit_back (entry_lines e) (flat_map entry_lines es) h))

-- a whole text
pub record IsWhole (ls : List Line) (es : List EntryValue) : Type 0 where
  pub fits : HistoryFits es
  pub whole : text es ≡ lines_text ls

pub whole_text : (ls : List Line) (n : ℕ) (es : List EntryValue) → IsBehind ls n Over es → AllByRecursion LineFits ls → IsWhole ls es
whole_text ls n es h fit =
    let count : n ≡ length es = h.place in
    let few : length es < 2 ^ 64 = subst (λ (k : ℕ). k < 2 ^ 64) count h.few in
    let all : ls ≡ history_lines es = h.lines ∙ ap (λ (k : ℕ). flat_map entry_lines es ++ lines.End k ∷ []) count in
    let parts = fit_front (flat_map entry_lines es) (lines.End n ∷ []) (subst (λ (x : List Line). AllByRecursion LineFits x) h.lines fit) in
    record {
      fits = record { history = h.history; entries = each_fits es parts; few = few };
      whole = history_text es h.history ∙ ap lines_text (sym all);
    }

-- the lines that a reader took begin the text of a history
pub begins : (ws : List (List ℕ)) (s : Reading) (es : List EntryValue) → AreTaken start ws s es → BeginsText (lined ws)
begins ws s es t =
    let ends = can_end t.lines s.count s.stage es (run_stands t.lines s es t.fit t.leads) in
    let whole = whole_text (t.lines ++ ends.more) s.count ends.entries ends.behind (fit_both t.lines ends.more t.fit ends.fit) in
    let front : lines_text t.lines ≡ lined ws = sym (lined_lines t.lines) ∙ ap lined (sym t.spelled) in
    record {
      entries = ends.entries;
      fits = whole.fits;
      rest = lines_text ends.more;
      whole = whole.whole ∙ flat_map-append (λ l. line_text l ++ 10 ∷ []) t.lines ends.more ∙ ap (λ (x : List ℕ). x ++ lines_text ends.more) front;
    }
