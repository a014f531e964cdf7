use Rattle.std.proofs.Common.{[]}
use Rattle.session_wire.specs.Servers.{handler_of, unread_of}
use Rattle.fed_stream.specs.Streams.{stream}
use Rattle.fed_cli.proofs.Called.{nothing_read, nothing_called, prompt_server, prompt_none}
use Rattle.fed_cli.proofs.KeptEngines.{open_server, keeps_served, no_server}
use Rattle.fed_cli.proofs.kept.serve_kept.Goals as goal

-- there is no room for a server
pub returns-in-Err-clause-worlds : goal.returns-in-Err-clause-worlds
returns-in-Err-clause-worlds g c = λ w agrees.
    no_server g.B.Wrapper.meaning c.in-Err.engine c.args.engine c.close_sessions.new.self (g.R.Source.remaining c.args.reader.now) (g.W.Sink.contents c.args.writer.now)
    c.in-Err.ensures.refused c.close_sessions.ensures.closes w agrees

-- the stream was served
pub returns-clause-worlds : goal.returns-clause-worlds
returns-clause-worlds g c = λ w agrees.
    keeps_served g.B.Wrapper.meaning c.in-Ok.server c.args.engine (handler_of c.serve_stream-ended.new.server) c.finish.result (unread_of c.serve_stream-ended.new.server)
    (stream (g.R.Source.remaining c.args.reader.now) (g.R.Source.remaining c.serve_stream-ended.new.reader)) (stream (g.W.Sink.contents c.args.writer.now) (g.W.Sink.contents c.serve_stream-ended.new.writer)) c.serve_stream-ended.result
    c.served_worlds_follow.ensures c.in-Ok.ensures.ok.0 c.in-Ok.ensures.ok.1 c.serve_stream-ended.ensures.serves c.finish.ensures.ended w agrees

-- the calls
pub returns-in-Err-clause-reads : goal.returns-in-Err-clause-reads
returns-in-Err-clause-reads g c = nothing_read _

pub returns-in-Err-clause-writes : goal.returns-in-Err-clause-writes
returns-in-Err-clause-writes g c = nothing_called _

pub returns-clause-reads : goal.returns-clause-reads
returns-clause-reads g c = c.serve_stream-ended.ensures.reads (open_server c.in-Ok.server [] c.in-Ok.ensures.ok.1).0

-- what was answered at each read
pub returns-in-Err-clause-prompt : goal.returns-in-Err-clause-prompt
returns-in-Err-clause-prompt g c = prompt_none _ _ _ _ _ _

pub returns-clause-prompt : goal.returns-clause-prompt
returns-clause-prompt g c =
    let opened = open_server c.in-Ok.server [] c.in-Ok.ensures.ok.1 in
    prompt_server _ _ _ c.in-Ok.server c.serve_stream-ended.new.server _ _ _ _ _ _ c.in-Ok.ensures.ok.0 opened.1
    (c.serve_stream-ended.ensures.prompt opened.0)
