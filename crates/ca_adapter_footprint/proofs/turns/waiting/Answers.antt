use Rattle.std.proofs.Common.{rules, ◌≡◌, ◌∙◌, sym, ap, true, false, Some}
use Rattle.ca_model.specs.declared.part_name.PartName.TheVariants as names
use Rattle.ca_model.specs.machine.Parts.{part, where_some}
use Rattle.ca_adapter_footprint.specs.Next.{waits_for_answers, next_of}
use Rattle.ca_adapter_footprint.proofs.TurnLemmas.{waits_full, waits_other}
use Rattle.ca_adapter_footprint.proofs.turns.waiting.Goals as goal

pub returns-then-not-waits_for_answers : goal.returns-then-not-waits_for_answers
returns-then-not-waits_for_answers c = λ k.
    let other : waits_for_answers c.args.reason ≡ false = search rules in
    sym (ap (next_of c.args.held.now) (waits_other k c.args.q.now c.args.reason c.requires other))

pub returns-in-Some : goal.returns-in-Some
returns-in-Some c = λ k.
    let full : waits_for_answers c.args.reason ≡ true = search rules in
    let there : c.args.q.now.peer ≡ Some (record { queue = c.in-Some.peer; incarnation = c.in-Some.field-0-1 }) = search rules in
    c.missing.ensures ∙ sym (ap (next_of c.args.held.now) (waits_full k c.args.q.now c.args.reason c.requires full
    ∙ ap (where_some (λ p. part (names.Mailbox p.queue))) there))
