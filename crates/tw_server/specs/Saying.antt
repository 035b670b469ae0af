-- What the program takes a line to say.
use Rattle.std.specs.Prelude.{◌≡◌, ⊤, Bool, true, false}
use Rattle.tw_command.specs.Meaning.{Meaning, blank, unknown, bad_parameter, command_means, TakesMemory, NameIsText}
use Rattle.tw_server.specs.Words as words
use Rattle.tw_server.specs.declared.command.Said.{Said}
use Rattle.tw_command.specs.declared.command.Command.{Command as Heard}
use Rattle.tw_command.specs.declared.command.Command.TheVariants.{ReadDecl, Top, Quit}
use Rattle.tw_server.specs.declared.command.Said.TheVariants.{TooLong, Blank, Unknown, BadParameter, NoMemory, Command}

-- the line says this; where memory is wanting it is a command that has a name
abbrev pub Says : words.Said → Said → Type 0
Says said TooLong = said ≡ words.too_long
Says said Blank = said ≡ words.meant blank
Says said Unknown = said ≡ words.meant unknown
Says said BadParameter = said ≡ words.meant bad_parameter
Says said NoMemory = (m : Meaning) × TakesMemory m × (said ≡ words.meant m)
Says said (Command c) = said ≡ words.meant (command_means c)

-- the name that is kept is UTF-8
abbrev pub HasText : Said → Type 0
HasText (Command c) = NameIsText c
HasText _ = ⊤

-- the run ends
abbrev pub quits : Heard → Bool
quits Quit = true
quits _ = false

abbrev pub is_quit : Said → Bool
is_quit (Command c) = quits c
is_quit _ = false

-- queries follow
abbrev pub is_top : Said → Bool
is_top (Command Top) = true
is_top _ = false

-- a declaration's text follows
abbrev pub takes_text : Said → Bool
takes_text (Command ReadDecl) = true
takes_text _ = false
