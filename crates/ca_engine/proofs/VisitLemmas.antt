-- What comes of a visit does not depend on what happened before it. For proofs only.
use Rattle.std.proofs.Common.{◌≡◌, ◌⊎◌, ℕ, suc, ◌<◌, inl, inr, Bool, true, false, if◌then◌else◌, List, [], ◌∷◌, Option, None, Some, nat_le, refl, sym, ap, ◌∙◌, subst, arith}
use Rattle.std.specs.Option.{option_map_or}
use Rattle.ca_model.specs.declared.event.Event.{Event}
use Rattle.ca_model.specs.declared.event.Event.TheVariants as events
use Rattle.ca_model.specs.machine.Plan.{Outcome, NotReady, Did}
use Rattle.ca_model.specs.machine.Step.{step}
use Rattle.ca_script_order.specs.ca_script.Script.{ScriptValue}
use Rattle.ca_script_order.specs.ca_script_lines.declared.Line.{Line}
use Rattle.ca_script_order.specs.ca_script_lines.declared.what.What.{What}
use Rattle.ca_script_order.specs.ca_script_lines.declared.what.What.TheVariants as whats
use Rattle.ca_script_order.specs.ca_model_places.Turns.{event_of}
use Rattle.ca_script_order.specs.Visits.{Visit, Consumer, Engine}
use Rattle.ca_script_order.proofs.EndLemmas.{Visited, chances, fewer-lines, lines_left, visit-visited}
use Rattle.ca_script_order.specs.Order.{Stage, after_line, has_no_event_left, lines_of, after_event, after_visit, after_outcome, with_lines_left}

-- a stage, where something happened before or not
abbrev pub at : Bool → Stage → Stage
at b g = record g { happened = b }

-- whatever happened before, something happens, and this is what comes of it
pub record Happens (f : Bool → Stage) (g : Stage) : Type 0 where
  pub after : Stage
  pub happened : after.happened ≡ true
  pub same : (b : Bool) → f b ≡ after
  pub differs : (b : Bool) → after ≡ at b g → ⊥

-- whatever happened before, nothing happens, or something does
abbrev pub Comes : (Bool → Stage) → Stage → Type 0
Comes f g = ((b : Bool) → f b ≡ at b g) ⊎ Happens f g

no-more : (n : ℕ) → suc n ≡ n → ⊥
no-more n same = omega (arith, same)

comes-entry : (event : Event) (done : Stage → Stage) (g : Stage) → ((h : Stage) → h.happened ≡ true → (done h).happened ≡ true) → ((h : Stage) → (done h).count ≡ h.count)
    → (o : Outcome) → Comes (λ b. after_outcome event o done (at b g)) g
comes-entry event done g also counts (NotReady reason) = inl (λ b. refl)
comes-entry event done g also counts (Did w ms) = inr (record {
  after = done next;
  happened = also next refl;
  same = λ b. refl;
  differs = λ b is. no-more g.count (sym (counts next) ∙ ap (λ (h : Stage). h.count) is);
})
  where
    next : Stage
    next = record g { world = w; past = record { stamp = g.count; pass = 0; event = event; marks = ms } ∷ g.past; count = suc g.count; happened = true }

comes-line : (s : ScriptValue) (k : ℕ) (lines : List Line) (g : Stage) → lines_of k g.left ≡ lines → Comes (λ b. after_line s k lines (at b g)) g
comes-line s k [] g has = inl (λ b. refl)
comes-line s k (line ∷ rest) g has = by line.what
  where
    passed : (p : Bool) → Comes (λ b. if p then with_lines_left k rest (at b g) else at b g) g
    passed true = inr (record {
      after = with_lines_left k rest g;
      happened = refl;
      same = λ b. refl;
      differs = λ b is. no-more (lines_left g.left) (ap suc (sym (ap (λ (h : Stage). lines_left h.left) is)) ∙ fewer-lines k g.left line rest has);
    })
    passed false = inl (λ b. refl)

    goes : Bool → What → Stage
    goes b (whats.Verb verb) = after_event s (events.Verb k verb) (with_lines_left k rest) (at b g)
    goes b (whats.At t) = if nat_le t g.count then with_lines_left k rest (at b g) else at b g

    by : (what : What) → Comes (λ b. goes b what) g
    by (whats.Verb verb) = comes-entry (events.Verb k verb) (with_lines_left k rest) g (λ h is. refl) (λ h. refl) (step s.config g.world (events.Verb k verb))
    by (whats.At t) = passed (nat_le t g.count)

pub comes-visit : (s : ScriptValue) (v : Visit) (g : Stage) → Comes (λ b. after_visit s v (at b g)) g
comes-visit s (Consumer k) g = comes-line s k (lines_of k g.left) g refl
comes-visit s (Engine turn) g = by (event_of s.weather g.world turn)
  where
    by : (o : Option Event) → Comes (λ b. option_map_or (λ event. after_event s event (λ h. h) (at b g)) o (at b g)) g
    by None = inl (λ b. refl)
    by (Some event) = comes-entry event (λ h. h) g (λ h is. is) (λ h. refl) (step s.config g.world event)

-- where something happens fewer events and lines can come still
pub fewer-chances : (s : ScriptValue) (v : Visit) (g : Stage) (h : Happens (λ b. after_visit s v (at b g)) g) → has_no_event_left s g ≡ false → chances s h.after < chances s g
fewer-chances s v g h room = by (visit-visited s v g)
  where
    by : Visited s g (after_visit s v g) → chances s h.after < chances s g
    by (inl same) = absurd (h.differs g.happened (sym (h.same g.happened) ∙ same))
    by (inr moved) = subst (λ (x : Stage). chances s x < chances s g) (h.same g.happened) (moved.fewer room)
