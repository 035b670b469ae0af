-- Faults of what stands behind a header are those of the declaration.
use Rattle.std.proofs.Common.{◌≡◌, ℕ, List, Option, None, Some, inr, refl, ap, ◌∙◌}
use Rattle.tw_lexer.specs.declared.place.Place.{Place}
use Rattle.tw_parse.specs.Failing.{SequenceFault}
use Rattle.tw_parse.specs.Outlines.{Table}
use Rattle.tw_parse.specs.Queries.{AskingFault}
use Rattle.tw_parse.specs.Sources.{lexemes_from}
use Rattle.tw_parse.specs.Words.{Lexeme, first_place}
use Rattle.tw_parse.specs.declared.fault.SyntaxFault.{SyntaxFault}
use Rattle.tw_parse.specs.declared.fault.SyntaxFault.TheVariants.{Unsupported, Nesting, Syntax, Fixity, BadDecl, NoMemory}
use Rattle.tw_parse.specs.declared.source.Source.{Source}
use Rattle.tw_parse_queries.specs.Bounds.{bound_of}
use Rattle.tw_parse_queries.specs.Faults.{SearchFault, SearchFaultOf, HasHeader, header_in, at_place}
use Rattle.tw_parse_queries.specs.Searches.{counts, Heads, queried}
use Rattle.tw_parse_queries.specs.declared.keywords.Form.TheVariants.{Solve}
use Rattle.tw_parse_queries.specs.declared.search.ExtBound.{ExtBound}
use Rattle.tw_parse_queries.proofs.Stopping.{sequence_stops}

no_question : (b c : Option ExtBound) → queried b c None ≡ None
no_question None c = refl
no_question (Some b) None = refl
no_question (Some b) (Some c) = refl

-- what is asked behind `%query e t`
pub query_fault : (table : Table) (end : Place) (tokens goal : List Lexeme) (e t : List ℕ) (f : SyntaxFault) → Heads tokens (counts e t) goal → AskingFault table end goal f → SearchFault table end tokens (at_place (first_place end tokens) f)
query_fault table end tokens goal e t (Syntax place) h s = (counts e t, goal, h, s)
query_fault table end tokens goal e t (Fixity place) h s = (counts e t, goal, h, s)
query_fault table end tokens goal e t (BadDecl place) h s =
    let read = s.1 in
    let broken = ap (queried (bound_of e) (bound_of t)) read.2.2 ∙ no_question (bound_of e) (bound_of t) in
    (refl, inr (counts e t, goal, h, (read.0, read.1, (read.2.0, read.2.1, broken))))
query_fault table end tokens goal e t NoMemory h s = tt
query_fault table end tokens goal e t (Nesting place) h s = absurd s
query_fault table end tokens goal e t (Unsupported name place) h s = absurd s

-- the goal behind `%solve c :`
pub goal_fault : (source : Source) (f : SyntaxFault) → HasHeader source Solve → SequenceFault source 3 f → SearchFaultOf source f
goal_fault source (Syntax place) h s = (header_in source Solve, lexemes_from source 3, h, sequence_stops source.fixities.now source.end place (lexemes_from source 3) s)
goal_fault source NoMemory h s = tt
goal_fault source (Fixity place) h s = absurd s
goal_fault source (BadDecl place) h s = absurd s
goal_fault source (Nesting place) h s = absurd s
goal_fault source (Unsupported name place) h s = absurd s
