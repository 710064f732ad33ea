-- A packet that goes to the peer's mailbox, or is lost. For proofs only.
use Rattle.std.proofs.Common.{◌≡◌, ◌∙◌, refl, sym, ap, subst, ℕ, Bool, true, false, ◌&&◌, IsTrue, if◌then◌else◌, List, true≢false}
use Rattle.std.proofs.Math.Path.{fun_ext}
use Rattle.ca_adapter_acts.specs.Binders.{changed_by}
use Rattle.ca_base.specs.declared.correspondent.Correspondent.{Correspondent}
use Rattle.ca_base.specs.declared.lot.Lot.{Lot}
use Rattle.ca_base.specs.objects.Mailbox.{Mailbox, after_send, has_room, passes}
use Rattle.ca_adapter_parts.specs.HeldView.{Holding, hold}
use Rattle.ca_keys.specs.declared.names.QueueId.{QueueId}
use Rattle.ca_keys.specs.Equal.{queue_eq}
use Rattle.ca_model.proofs.ThingLemmas.{queue-path}
use Rattle.ca_model.specs.machine.World.{Mailbox_of}
use Rattle.ca_adapter_turns.specs.Stepped.{HasRoomFor, mail_updates}

same-mailbox : (h : Holding) (name : QueueId) (m : Mailbox) → m ≡ h.world.mailbox name → hold h (Mailbox_of name) m ≡ h
same-mailbox h name m is = λ i. record h { world = record h.world { mailbox = fun_ext (λ n. by n (queue_eq name n) refl) i } }
  where
    by : (n : QueueId) (b : Bool) → queue_eq name n ≡ b → (if b then m else h.world.mailbox n) ≡ h.world.mailbox n
    by n true same = is ∙ ap h.world.mailbox (queue-path name n same)
    by n false other = refl

-- what is refused though there is room has no path
unpassed : (p r : Bool) → (IsTrue (p && r) → false ≡ true) → (p ≡ true → r ≡ true) → p ≡ false
unpassed true true refused room = absurd (true≢false (sym (refused refl)))
unpassed true false refused room = absurd (true≢false (sym (room refl)))
unpassed false r refused room = refl

module _ (h new : Holding) (from to : Correspondent) (lot : Lot) (bytes : List ℕ) (m : Mailbox) (put : new ≡ hold h (Mailbox_of to.queue) m) where
  abbrev there : Mailbox
  there = h.world.mailbox to.queue

  pub mail_sent : passes from to.incarnation there ≡ true → m ≡ after_send lot bytes there → new ≡ changed_by (mail_updates from to there lot bytes) h
  mail_sent path sent = put ∙ ap (λ x. hold h (Mailbox_of to.queue) x) sent ∙ rw path refl

  mail_kept : passes from to.incarnation there ≡ false → m ≡ there → new ≡ changed_by (mail_updates from to there lot bytes) h
  mail_kept path kept = put ∙ same-mailbox h to.queue m kept ∙ rw path refl

  pub mail_refused : (seen : Mailbox) → seen ≡ there → (IsTrue (passes from to.incarnation seen && has_room seen) → false ≡ true) → HasRoomFor from to there → m ≡ seen
      → new ≡ changed_by (mail_updates from to there lot bytes) h
  mail_refused seen at refused room kept = mail_kept (unpassed (passes from to.incarnation there) (has_room there)
      (subst (λ x. IsTrue (passes from to.incarnation x && has_room x) → false ≡ true) at refused) room) (kept ∙ at)
