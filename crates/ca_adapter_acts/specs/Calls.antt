-- Who calls which verb. Contracts cite it.
use Rattle.ca_model.specs.machine.VerbAnswers as machine
use Rattle.ca_adapter_acts.specs.declared.answers.Call.{Call}
use Rattle.ca_adapter_acts.specs.declared.answers.Ready.{Ready}

abbrev pub call_of : Call → machine.Call
call_of call = record { by = call.by; verb = call.verb.now }

abbrev pub call_ready : Ready → machine.Call
call_ready ready = record { by = ready.by; verb = ready.verb }
