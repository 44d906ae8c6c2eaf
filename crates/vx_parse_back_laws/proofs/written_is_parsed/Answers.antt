use Rattle.vx_parse_back_laws.proofs.WrittenLaws.{written_is_parsed}
use Rattle.vx_parse_back_laws.proofs.Known.{written_is_known, session_knows}
use Rattle.vx_parse_back_laws.proofs.written_is_parsed.Goals as goal

pub returns-clause-parsed : goal.returns-clause-parsed
returns-clause-parsed c = written_is_parsed

pub returns-clause-known : goal.returns-clause-known
returns-clause-known c = written_is_known

pub returns-clause-session : goal.returns-clause-session
returns-clause-session c = session_knows
