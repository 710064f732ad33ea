use Rattle.ca_cq.proofs.KeptRooms.{after-polls, after-put, after-release, after-reserve, without-completions}
use Rattle.ca_cq.proofs.laws.calls_keep_room.Goals as goal

pub returns-clause-reserve : goal.returns-clause-reserve
returns-clause-reserve c = after-reserve

pub returns-clause-put : goal.returns-clause-put
returns-clause-put c = after-put

pub returns-clause-poll : goal.returns-clause-poll
returns-clause-poll c = after-polls

pub returns-clause-drop_queue : goal.returns-clause-drop_queue
returns-clause-drop_queue c = without-completions

pub returns-clause-release : goal.returns-clause-release
returns-clause-release c = after-release
