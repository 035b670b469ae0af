-- A declaration that is made keeps the view sound.
use Rattle.std.proofs.Common.{List, None, Some, sym, subst}
use Rattle.tw_parse.specs.Syntax.{Declaration, declare, define, prefer, give}
use Rattle.tw_parse.specs.Words.{Lexeme}
use Rattle.tw_parse_checks.specs.Checks.{Check, mode_short, mode_full, block, worlds, terminates}
use Rattle.tw_parse_queries.specs.Searches.{query, solve}
use Rattle.tw_decl.specs.View.{View, IsSound}
use Rattle.tw_decl.specs.Declaration.{Checks, Does, Makes, ReadDoes}
use Rattle.tw_decl.specs.Reading.{Read, plain, check, searching}
use Rattle.tw_decl.specs.Reports.{Reported}
use Rattle.tw_decl.specs.Laws.{AcceptingKeepsSound, AcceptingFromKeepsSound}
use Rattle.tw_decl.proofs.Standing.{block_sound, entry_sound, given_typed, named_among, worlds_sound}

does_sound : (v w : View) (d : Declaration) (report : Reported) → Does v d report w → IsSound v → IsSound w
does_sound v w (declare c at U) report h s = subst IsSound (sym h.keeps) (entry_sound v h.entry s h.stands)
does_sound v w (define None A M b) report h s = subst IsSound (sym h.keeps) s
does_sound v w (define (Some c) A M b) report h s = subst IsSound (sym h.keeps) (entry_sound v h.entry s h.stands)
does_sound v w (prefer a x y) report h s = subst IsSound (sym h.keeps) s
does_sound v w (give fix names) report h s = subst IsSound (sym h.keeps) s

check_sound : (v w : View) (c : Check) (report : Reported) → Checks v c report w → IsSound v → IsSound w
check_sound v w (mode_short a ms) report h s = subst IsSound (sym h.keeps) s
check_sound v w (mode_full ms a n d) report h s = subst IsSound (sym h.keeps) s
check_sound v w (terminates O ps) report h s = subst IsSound (sym h.keeps) s
check_sound v w (block l n d) report h s = subst IsSound (sym h.keeps) (block_sound v h.added s (given_typed v l n d h.added h.gives))
check_sound v w (worlds ls ps) report h s = subst IsSound (sym h.keeps) (worlds_sound v h.families h.blocks s (named_among v ls h.blocks h.gives.named))

read_sound : (v w : View) (r : Read) (report : Reported) → ReadDoes v r report w → IsSound v → IsSound w
read_sound v w (plain d) report h s = does_sound v w d report h s
read_sound v w (check c) report h s = check_sound v w c report h s
read_sound v w (searching (query e t q)) report h s = subst IsSound (sym h.keeps) s
read_sound v w (searching (solve c at A)) report h s = subst IsSound (sym h.keeps) (entry_sound v h.entry s h.found.stands)

makes_sound : (v w : View) (words : List Lexeme) (report : Reported) → Makes v words report w → IsSound v → IsSound w
makes_sound v w words report h s = read_sound v w h.read report h.does s

pub accepted_sound : AcceptingKeepsSound
accepted_sound v w text report h s = makes_sound v w h.words report h.makes s

pub accepted_from_sound : AcceptingFromKeepsSound
accepted_from_sound v w text report from upto h s = makes_sound v w h.words report h.makes s
