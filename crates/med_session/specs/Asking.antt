-- What a request asks, as text.
use Rattle.sql_meaning.specs.Requests.{AskedLine, opening, sql, bye}
use Rattle.med_session.specs.declared.session.Request.{Request}
use Rattle.med_session.specs.declared.session.Request.TheVariants as request

abbrev pub asked : Request → AskedLine
asked (request.Open user) = opening user.now
asked (request.Sql text) = sql text.now
asked request.Bye = bye
