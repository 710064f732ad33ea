use Rattle.std.proofs.Common.{◌≡◌, ◌∙◌, ◌++◌, ap, subst, sym, slice_get}
use Rattle.std.specs.Option.{option_and_then}
use Rattle.ca_parts.specs.Rows.{settings_of, view_of}
use Rattle.ca_verbs.proofs.FewLemmas.{few-joined}
use Rattle.ca_verbs.proofs.ReceiptLemmas.{kept-joined, latest-front}
use Rattle.ca_verbs.specs.Kept.{AreFew, kept_of, told_by}
use Rattle.ca_verbs.proofs.fabric.Fabric.join.Goals as goal

pub invariant_of-into-2-clause-kept : goal.invariant_of-into-2-clause-kept
invariant_of-into-2-clause-kept c = ap kept_of (c.add_entries.ensures ∙ ap (λ es. es ++ c.args.other.entries.items) c.reserve.ensures.items)
    ∙ kept-joined c.args.into.now.entries.items c.args.other.entries.items (view_of c.args.into.now.parts) (view_of c.args.other.parts) c.args.into.now.kept c.args.other.kept
    ∙ ap (λ v. told_by v.entries) (sym c.join.ensures.joined)

pub invariant_of-into-2-clause-few : goal.invariant_of-into-2-clause-few
invariant_of-into-2-clause-few c = subst AreFew (sym c.join.ensures.joined)
    (few-joined (settings_of c.args.self.now.parts) (view_of c.args.into.now.parts) (view_of c.args.other.parts) c.requires.into.2 c.requires.other.2 c.args.into.now.few c.args.other.few)

pub returns-clause-latest : goal.returns-clause-latest
returns-clause-latest c = ap (λ es. option_and_then (slice_get es) c.args.into.now.latest) (c.add_entries.ensures ∙ ap (λ es. es ++ c.args.other.entries.items) c.reserve.ensures.items)
    ∙ latest-front c.args.into.now.entries.items c.args.other.entries.items c.args.into.now.latest c.args.into.now.within
