use Rattle.std.proofs.Common.{◌≡◌, sym, subst, true, false}
use Rattle.tw_command.specs.Meaning.{Meaning, TakesMemory, bad_parameter, blank, command_means, load_file, show_entry, top, unknown}
use Rattle.tw_command.specs.declared.command.Command.TheVariants as commands
use Rattle.tw_server.specs.Playing.{IsPhaseBehind}
use Rattle.tw_server.specs.Saying.{Says, is_top}
use Rattle.tw_server.specs.Words.{Said, meant, too_long}
use Rattle.tw_server.specs.declared.command.Said.{Said as Heard}
use Rattle.tw_server.specs.declared.command.Said.TheVariants as heard
use Rattle.tw_server.specs.declared.phase.Phase.{Phase as Kept}
use Rattle.tw_server.specs.declared.phase.Phase.TheVariants as kept
use Rattle.tw_server.proofs.command.Said.next.Goals as goal

-- what is read behind a line that says the same
behind_same : (line said : Said) (k : Kept) → line ≡ said → IsPhaseBehind said k → IsPhaseBehind line k
behind_same line said k e h = subst (λ (x : Said). IsPhaseBehind x k) (sym e) h

behind_top : (line : Said) (said : Heard) → Says line said → is_top said ≡ true → IsPhaseBehind line kept.Query
behind_top line (heard.Command commands.Top) s t = behind_same line (meant top) kept.Query s (λ es. tt)
behind_top line said s t = cc

-- memory is wanting only for commands behind which a command is read
behind_memory : (m : Meaning) → TakesMemory m → IsPhaseBehind (meant m) kept.Command
behind_memory (load_file name) h = λ es. tt
behind_memory (show_entry name) h = λ es. tt
behind_memory m h = absurd h

behind_other : (line : Said) (said : Heard) → Says line said → is_top said ≡ false → IsPhaseBehind line kept.Command
behind_other line heard.TooLong s t = behind_same line too_long kept.Command s (λ es. tt)
behind_other line heard.Blank s t = behind_same line (meant blank) kept.Command s (λ es. tt)
behind_other line heard.Unknown s t = behind_same line (meant unknown) kept.Command s (λ es. tt)
behind_other line heard.BadParameter s t = behind_same line (meant bad_parameter) kept.Command s (λ es. tt)
behind_other line heard.NoMemory s t = behind_same line (meant s.0) kept.Command s.2 (behind_memory s.0 s.1)
behind_other line (heard.Command commands.Top) s t = cc
behind_other line (heard.Command c) s t = behind_same line (meant (command_means c)) kept.Command s (λ es. tt)

pub returns-then-is_top : goal.returns-then-is_top
returns-then-is_top c line s = behind_top line c.args.self.now s (sym c.if-is_top.ensures)

pub returns-else-is_top : goal.returns-else-is_top
returns-else-is_top c line s = behind_other line c.args.self.now s (sym c.if-is_top.ensures)
