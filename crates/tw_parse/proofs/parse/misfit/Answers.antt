use Rattle.tw_parse.specs.Sources.{lexemes_from}
use Rattle.tw_parse.proofs.Stopping.{no_syntax}
use Rattle.tw_parse.proofs.parse.misfit.Goals as goal

pub returns-clause-stands : goal.returns-clause-stands
returns-clause-stands c =
    let source = c.args.source.now in (
      c.requires.keyword,
      c.place.ensures,
      λ d read. c.requires.shape read.0 read.1,
      λ at stop. no_syntax source.fixities.now source.end at (lexemes_from source 0) c.requires.keyword c.requires.other stop,
      λ at fault. c.requires.shape fault.0 fault.1,
    )
