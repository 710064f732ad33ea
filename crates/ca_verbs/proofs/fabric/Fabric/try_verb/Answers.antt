use Rattle.std.proofs.Common.{◌≡◌, ◌∙◌, rules, ap, refl, subst, sym, Some}
use Rattle.ca_model.specs.declared.event.Event.TheVariants as events
use Rattle.ca_verbs_machine.specs.declared.asked.Asked.TheVariants as asks
use Rattle.ca_parts.specs.Rows.{settings_of, view_of}
use Rattle.ca_verbs.proofs.FewLemmas.{few-made}
use Rattle.ca_verbs.proofs.ReceiptLemmas.{kept-made, receipt-of}
use Rattle.ca_verbs.specs.Kept.{AreFew, kept_of, told_by}
use Rattle.ca_verbs.proofs.fabric.Fabric.try_verb.Goals as goal

pub returns-clause-made : goal.returns-clause-made
returns-clause-made c = receipt-of _ _ _ _ _ _ _ _ _ c.in_ok-made.made.marks c.make_room.new.self.entries.items _ c.len.result c.in_ok-made.ensures.made (ap (λ p. view_of p) c.make_room.ensures.parts)
    (ap (λ v. asks.Event (events.Verb c.args.by v)) c.in-Ok.ensures.cases) (ap (events.Verb c.args.by) c.in-Ok.ensures.cases) refl (search rules) c.push_reserved.ensures.items c.number-number.ensures c.make_room.ensures.entries

pub invariant_of-pass-2-clause-few : goal.invariant_of-pass-2-clause-few
invariant_of-pass-2-clause-few c = few-made (settings_of c.args.self.now.parts) (view_of c.make_room.new.self.parts) (view_of c.try_event.new.pass)
    (subst (λ p. (view_of p).settings ≡ Some (settings_of c.args.self.now.parts)) (sym c.make_room.ensures.parts) c.requires.of.2) c.in_ok-made.ensures.of.2
    (subst (λ p. AreFew (view_of p)) (sym c.make_room.ensures.parts) c.args.pass.now.few) _ _ c.in_ok-made.ensures.made

pub invariant_of-pass-2-clause-kept : goal.invariant_of-pass-2-clause-kept
invariant_of-pass-2-clause-kept c = ap kept_of (c.push_reserved.ensures.items)
    ∙ kept-made _ _ _ (view_of c.make_room.new.self.parts) (view_of c.try_event.new.pass) c.make_room.new.self.entries.items _ c.in_ok-made.ensures.made
    (ap kept_of c.make_room.ensures.entries ∙ c.args.pass.now.kept ∙ ap (λ p. told_by (view_of p).entries) (sym c.make_room.ensures.parts)) refl
