-- What a verb adds to what is still to be done: the packets of the request that it posts. Laws cite it.
use Rattle.std.specs.Prelude.{ℕ}
use Rattle.ca_base.specs.declared.limits.TheConstants.{MIN_PATH_MTU}
use Rattle.ca_base.specs.declared.request.SendOp.{SendOp}
use Rattle.ca_model.specs.Requests.{list_length, list_of, segments}
use Rattle.ca_model.specs.declared.verb.Verb.{Verb}
use Rattle.ca_model.specs.declared.verb.Verb.TheVariants as verbs

-- the packets of a request's list at the smallest path MTU, one at least; a local operation counts as one
abbrev pub packets_of : SendOp → ℕ
packets_of op = segments MIN_PATH_MTU (list_length (list_of op))

-- those of the request that a verb posts to be sent
abbrev pub packets_posted : Verb → ℕ
packets_posted (verbs.PostSend slot request) = packets_of request.op
packets_posted verb = 0

-- the verb injects no packet
abbrev pub InjectsNothing : Verb → Type 0
InjectsNothing (verbs.Inject queue bytes) = ⊥
InjectsNothing verb = Unit {0}
