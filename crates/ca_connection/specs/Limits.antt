-- The limits on which the laws of a connection rest, and how far behind a packet can be because of them. Contracts cite it.
use Rattle.std.specs.Prelude.{ℕ, ◌+◌, ◌-◌, ◌*◌}
use Rattle.ca_base.specs.declared.limits.TheConstants.{MAX_MESSAGE_PACKETS, MAX_OUTSTANDING_PSNS, KEPT_ENVELOPES}

-- how many numbers a requester has outstanding at most
abbrev pub most_outstanding : ℕ
most_outstanding = MAX_OUTSTANDING_PSNS

-- how many numbers a packet takes at most: those of a READ of the longest message
abbrev pub greatest_span : ℕ
greatest_span = MAX_MESSAGE_PACKETS

-- a request can be delivered while fewer than so many later envelopes came to the responder's mailbox
abbrev pub kept_requests : ℕ
kept_requests = KEPT_ENVELOPES

-- a response can be delivered while fewer than so many later envelopes came to the requester's mailbox
abbrev pub kept_responses : ℕ
kept_responses = KEPT_ENVELOPES

-- how far below the expected number a request can be that is delivered: 1,052,672
abbrev pub request_distance : ℕ
request_distance = most_outstanding + greatest_span * (kept_requests - 1)

-- how far below `una` a response can be that is delivered: 3,141,632
abbrev pub response_distance : ℕ
response_distance = request_distance + most_outstanding * (kept_responses - 1)
