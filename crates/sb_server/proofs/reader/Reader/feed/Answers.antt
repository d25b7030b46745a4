use Rattle.sb_server.proofs.Reading.{has_answer}
use Rattle.sb_server.proofs.reader.Reader.feed.Goals as goal

pub returns-in-Some-clause-full : goal.returns-in-Some-clause-full
returns-in-Some-clause-full c = λ none some. has_answer c.feed.new.self c.feed.ensures.caused (c.feed.ensures.full none some)

pub returns-clause-full : goal.returns-clause-full
returns-clause-full c = λ none some. has_answer c.feed-count.new.self c.feed-count.ensures.caused (c.feed-count.ensures.full none some)
