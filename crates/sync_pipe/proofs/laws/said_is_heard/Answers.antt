use Rattle.sync_pipe.proofs.Spelled.{message_is_heard, messages_are_heard}
use Rattle.sync_pipe.proofs.laws.said_is_heard.Goals as goal

pub returns-clause-one : goal.returns-clause-one
returns-clause-one c = message_is_heard

pub returns-clause-all : goal.returns-clause-all
returns-clause-all c = messages_are_heard
