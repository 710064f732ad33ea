use Rattle.std.proofs.Common.{subst, sym}
use Rattle.ca_adapter_acts.specs.Act.{Suffices}
use Rattle.ca_adapter_acts.specs.Calls.{call_of}
use Rattle.ca_model.specs.machine.HostVerbs.{load_plan}
use Rattle.ca_model.specs.machine.RegionVerbs.{reg_mr_plan}
use Rattle.ca_model.specs.machine.Step.{run_of}
use Rattle.ca_adapter.proofs.FitLemmas.{receive_fits_held, send_fits_held}
use Rattle.ca_adapter.proofs.PollLemmas.{waiting_are_apart, waiting_are_of_own_places, waiting_can_be_freed}
use Rattle.ca_adapter.proofs.ReadyLemmas.{change_can_be_made, end_can_be_made, incarnation_rises, objects_rise, of_verb, queue_is_sound, receive_place_rises, send_place_rises, shared_place_rises, side_is_new, slot_and_small, slot_is_small, users_rise, window_is_counted, window_is_small}
use Rattle.ca_adapter.proofs.TurnLemmas.{turn_parts, turn_steps, verb_fits}
use Rattle.ca_adapter.proofs.verbs.act_verb.Goals as goal

pub alloc_pd-requires : goal.alloc_pd-requires
alloc_pd-requires c = record { suffices = (of_verb c.in-AllocPd.is c.requires.ready c.requires.made c.requires.named).suffices }

pub dealloc_pd-requires : goal.dealloc_pd-requires
dealloc_pd-requires c = record { suffices = (of_verb c.in-DeallocPd.is c.requires.ready c.requires.made c.requires.named).suffices }

pub reg_mr-requires-clause-suffices : goal.reg_mr-requires-clause-suffices
reg_mr-requires-clause-suffices c =
    subst (λ n. Suffices c.args.held.now (reg_mr_plan (call_of c.args.call.now) c.in-RegMr.slot
    (run_of c.in-RegMr.slot.domain.adapter c.in-RegMr.buffer c.in-RegMr.offset c.in-RegMr.length) n c.in-RegMr.rights))
    (sym c.length_of.ensures) (of_verb c.in-RegMr.is c.requires.ready c.requires.made c.requires.named).suffices

pub reg_mr-requires-clause-few : goal.reg_mr-requires-clause-few
reg_mr-requires-clause-few c = objects_rise _ _ _ _ c.requires.ready

pub alloc_mr-requires-clause-suffices : goal.alloc_mr-requires-clause-suffices
alloc_mr-requires-clause-suffices c = (of_verb c.in-AllocMr.is c.requires.ready c.requires.made c.requires.named).suffices

pub alloc_mr-requires-clause-few : goal.alloc_mr-requires-clause-few
alloc_mr-requires-clause-few c = objects_rise _ _ _ _ c.requires.ready

pub dereg_mr-requires : goal.dereg_mr-requires
dereg_mr-requires c = record { suffices = (of_verb c.in-DeregMr.is c.requires.ready c.requires.made c.requires.named).suffices }

pub alloc_mw-requires-clause-suffices : goal.alloc_mw-requires-clause-suffices
alloc_mw-requires-clause-suffices c = (of_verb c.in-AllocMw.is c.requires.ready c.requires.made c.requires.named).suffices

pub alloc_mw-requires-clause-few : goal.alloc_mw-requires-clause-few
alloc_mw-requires-clause-few c = objects_rise _ _ _ _ c.requires.ready

pub dealloc_mw-requires-clause-suffices : goal.dealloc_mw-requires-clause-suffices
dealloc_mw-requires-clause-suffices c = (of_verb c.in-DeallocMw.is c.requires.ready c.requires.made c.requires.named).suffices

pub dealloc_mw-requires-clause-counted : goal.dealloc_mw-requires-clause-counted
dealloc_mw-requires-clause-counted c = window_is_counted _ _ _ _ (of_verb c.in-DeallocMw.is c.requires.ready c.requires.made c.requires.named).ready (of_verb c.in-DeallocMw.is c.requires.ready c.requires.made c.requires.named).named

pub create_cq-requires-clause-suffices : goal.create_cq-requires-clause-suffices
create_cq-requires-clause-suffices c = (of_verb c.in-CreateCq.is c.requires.ready c.requires.made c.requires.named).suffices

pub create_cq-requires-clause-few : goal.create_cq-requires-clause-few
create_cq-requires-clause-few c = objects_rise _ _ _ _ c.requires.ready

pub destroy_cq-requires : goal.destroy_cq-requires
destroy_cq-requires c = record { suffices = (of_verb c.in-DestroyCq.is c.requires.ready c.requires.made c.requires.named).suffices }

pub create_srq-requires-clause-suffices : goal.create_srq-requires-clause-suffices
create_srq-requires-clause-suffices c = (of_verb c.in-CreateSrq.is c.requires.ready c.requires.made c.requires.named).suffices

pub create_srq-requires-clause-few : goal.create_srq-requires-clause-few
create_srq-requires-clause-few c = objects_rise _ _ _ _ c.requires.ready

pub destroy_srq-requires : goal.destroy_srq-requires
destroy_srq-requires c = record { suffices = (of_verb c.in-DestroySrq.is c.requires.ready c.requires.made c.requires.named).suffices }

pub create_qp-requires-clause-small : goal.create_qp-requires-clause-small
create_qp-requires-clause-small c = slot_is_small _ _ _ _ c.requires.ready (of_verb c.in-CreateQp.is c.requires.ready c.requires.made c.requires.named).named

pub create_qp-requires-clause-suffices : goal.create_qp-requires-clause-suffices
create_qp-requires-clause-suffices c = (of_verb c.in-CreateQp.is c.requires.ready c.requires.made c.requires.named).suffices

pub create_qp-requires-clause-few : goal.create_qp-requires-clause-few
create_qp-requires-clause-few c = objects_rise _ _ _ _ c.requires.ready

pub create_qp-requires-clause-users : goal.create_qp-requires-clause-users
create_qp-requires-clause-users c = users_rise _ _ _ (record {
  slot = c.in-CreateQp.slot;
  send_cq = c.in-CreateQp.send_cq;
  recv_cq = c.in-CreateQp.recv_cq;
  send_depth = c.in-CreateQp.send_depth;
  recv_depth = c.in-CreateQp.recv_depth;
  srq = c.in-CreateQp.srq;
}) c.requires.ready

pub create_qp-requires-clause-incarnation : goal.create_qp-requires-clause-incarnation
create_qp-requires-clause-incarnation c = incarnation_rises _ _ _ _ c.requires.ready

pub create_qp-requires-clause-new : goal.create_qp-requires-clause-new
create_qp-requires-clause-new c = side_is_new _ _ _ (record {
  slot = c.in-CreateQp.slot;
  send_cq = c.in-CreateQp.send_cq;
  recv_cq = c.in-CreateQp.recv_cq;
  send_depth = c.in-CreateQp.send_depth;
  recv_depth = c.in-CreateQp.recv_depth;
  srq = c.in-CreateQp.srq;
}) (of_verb c.in-CreateQp.is c.requires.ready c.requires.made c.requires.named).ready (of_verb c.in-CreateQp.is c.requires.ready c.requires.made c.requires.named).named

pub modify_qp-requires-clause-small : goal.modify_qp-requires-clause-small
modify_qp-requires-clause-small c = slot_is_small _ _ _ _ c.requires.ready (of_verb c.in-ModifyQp.is c.requires.ready c.requires.made c.requires.named).named

pub modify_qp-requires-clause-suffices : goal.modify_qp-requires-clause-suffices
modify_qp-requires-clause-suffices c = (of_verb c.in-ModifyQp.is c.requires.ready c.requires.made c.requires.named).suffices

pub modify_qp-requires-clause-queue : goal.modify_qp-requires-clause-queue
modify_qp-requires-clause-queue c = queue_is_sound _ _ _ _ c.requires.ready

pub modify_qp-requires-clause-incarnation : goal.modify_qp-requires-clause-incarnation
modify_qp-requires-clause-incarnation c = incarnation_rises _ _ _ _ c.requires.ready

pub modify_qp-requires-clause-can : goal.modify_qp-requires-clause-can
modify_qp-requires-clause-can c = change_can_be_made _ _ _ _ _ (of_verb c.in-ModifyQp.is c.requires.ready c.requires.made c.requires.named).ready (of_verb c.in-ModifyQp.is c.requires.ready c.requires.made c.requires.named).named

pub query_qp-requires-clause-small : goal.query_qp-requires-clause-small
query_qp-requires-clause-small c = slot_is_small _ _ _ _ c.requires.ready (of_verb c.in-QueryQp.is c.requires.ready c.requires.made c.requires.named).named

pub query_qp-requires-clause-suffices : goal.query_qp-requires-clause-suffices
query_qp-requires-clause-suffices c = (of_verb c.in-QueryQp.is c.requires.ready c.requires.made c.requires.named).suffices

pub destroy_qp-requires-clause-small : goal.destroy_qp-requires-clause-small
destroy_qp-requires-clause-small c = slot_is_small _ _ _ _ c.requires.ready (of_verb c.in-DestroyQp.is c.requires.ready c.requires.made c.requires.named).named

pub destroy_qp-requires-clause-suffices : goal.destroy_qp-requires-clause-suffices
destroy_qp-requires-clause-suffices c = (of_verb c.in-DestroyQp.is c.requires.ready c.requires.made c.requires.named).suffices

pub destroy_qp-requires-clause-queue : goal.destroy_qp-requires-clause-queue
destroy_qp-requires-clause-queue c = queue_is_sound _ _ _ _ c.requires.ready

pub destroy_qp-requires-clause-can : goal.destroy_qp-requires-clause-can
destroy_qp-requires-clause-can c = end_can_be_made _ _ _ _ (of_verb c.in-DestroyQp.is c.requires.ready c.requires.made c.requires.named).ready (of_verb c.in-DestroyQp.is c.requires.ready c.requires.made c.requires.named).named

pub post_send-requires-clause-small : goal.post_send-requires-clause-small
post_send-requires-clause-small c = slot_and_small _ _ _ _ _ c.requires.ready (of_verb c.in-PostSend.is c.requires.ready c.requires.made c.requires.named).named

pub post_send-requires-clause-window : goal.post_send-requires-clause-window
post_send-requires-clause-window c = window_is_small _ _ _ _ c.in-PostSend.request c.requires.ready (of_verb c.in-PostSend.is c.requires.ready c.requires.made c.requires.named).named

pub post_send-requires-clause-suffices : goal.post_send-requires-clause-suffices
post_send-requires-clause-suffices c = (of_verb c.in-PostSend.is c.requires.ready c.requires.made c.requires.named).suffices

pub post_send-requires-clause-queue : goal.post_send-requires-clause-queue
post_send-requires-clause-queue c = queue_is_sound _ _ _ _ c.requires.ready

pub post_send-requires-clause-next : goal.post_send-requires-clause-next
post_send-requires-clause-next c = send_place_rises _ _ _ _ c.requires.ready

pub post_send-requires-clause-fits : goal.post_send-requires-clause-fits
post_send-requires-clause-fits c = send_fits_held _ _ _ _ _ (of_verb c.in-PostSend.is c.requires.ready c.requires.made c.requires.named).ready (of_verb c.in-PostSend.is c.requires.ready c.requires.made c.requires.named).made (of_verb c.in-PostSend.is c.requires.ready c.requires.made c.requires.named).named

pub post_recv-requires-clause-small : goal.post_recv-requires-clause-small
post_recv-requires-clause-small c = slot_is_small _ _ _ _ c.requires.ready (of_verb c.in-PostRecv.is c.requires.ready c.requires.made c.requires.named).named

pub post_recv-requires-clause-suffices : goal.post_recv-requires-clause-suffices
post_recv-requires-clause-suffices c = (of_verb c.in-PostRecv.is c.requires.ready c.requires.made c.requires.named).suffices

pub post_recv-requires-clause-queue : goal.post_recv-requires-clause-queue
post_recv-requires-clause-queue c = queue_is_sound _ _ _ _ c.requires.ready

pub post_recv-requires-clause-next : goal.post_recv-requires-clause-next
post_recv-requires-clause-next c = receive_place_rises _ _ _ _ c.requires.ready

pub post_recv-requires-clause-fits : goal.post_recv-requires-clause-fits
post_recv-requires-clause-fits c = receive_fits_held _ _ _ _ _ (of_verb c.in-PostRecv.is c.requires.ready c.requires.made c.requires.named).ready (of_verb c.in-PostRecv.is c.requires.ready c.requires.made c.requires.named).made (of_verb c.in-PostRecv.is c.requires.ready c.requires.made c.requires.named).named

pub post_srq-requires-clause-suffices : goal.post_srq-requires-clause-suffices
post_srq-requires-clause-suffices c = (of_verb c.in-PostSrq.is c.requires.ready c.requires.made c.requires.named).suffices

pub post_srq-requires-clause-next : goal.post_srq-requires-clause-next
post_srq-requires-clause-next c = shared_place_rises _ _ _ _ c.requires.ready

pub poll-requires-clause-suffices : goal.poll-requires-clause-suffices
poll-requires-clause-suffices c = (of_verb c.in-Poll.is c.requires.ready c.requires.made c.requires.named).suffices

pub poll-requires-clause-places : goal.poll-requires-clause-places
poll-requires-clause-places c = waiting_can_be_freed _ _ _ _ c.requires.ready

pub poll-requires-clause-once : goal.poll-requires-clause-once
poll-requires-clause-once c = waiting_are_of_own_places _ _ _ _ c.requires.ready

pub poll-requires-clause-apart : goal.poll-requires-clause-apart
poll-requires-clause-apart c = waiting_are_apart _ _ _ _ c.requires.ready

pub store_at-requires : goal.store_at-requires
store_at-requires c = record { suffices = (of_verb c.in-Store.is c.requires.ready c.requires.made c.requires.named).suffices }

pub load-requires : goal.load-requires
load-requires c = record {
  suffices = subst (λ n. Suffices c.args.held.now (load_plan (call_of c.args.call.now)
      (run_of c.in-Load.adapter c.in-Load.buffer c.in-Load.offset c.in-Load.length) n))
      (sym c.length_of-in-Load.ensures) (of_verb c.in-Load.is c.requires.ready c.requires.made c.requires.named).suffices;
}

pub inject-requires-clause-suffices : goal.inject-requires-clause-suffices
inject-requires-clause-suffices c = (of_verb c.in-Inject.is c.requires.ready c.requires.made c.requires.named).suffices

pub inject-requires-clause-parts : goal.inject-requires-clause-parts
inject-requires-clause-parts c = turn_parts _ _ _ c.requires.ready

pub inject-requires-clause-needs : goal.inject-requires-clause-needs
inject-requires-clause-needs c = (of_verb c.in-Inject.is c.requires.ready c.requires.made c.requires.named).ready.next

pub inject-requires-clause-named : goal.inject-requires-clause-named
inject-requires-clause-named c = (of_verb c.in-Inject.is c.requires.ready c.requires.made c.requires.named).named

pub inject-requires-clause-step : goal.inject-requires-clause-step
inject-requires-clause-step c = turn_steps _ _ _ c.requires.ready c.in-Inject.queue

pub inject-requires-clause-fits : goal.inject-requires-clause-fits
inject-requires-clause-fits c = verb_fits _ _ _ _ _ c.in-Inject.is c.requires.ready c.requires.made c.requires.named
