-- The bytes of replies.
use Rattle.std.specs.Prelude.{ℕ, Bool, true, false, List, [], ◌++◌, codes, decimal}
use Rattle.tw_command.specs.declared.command.Parameter.{Parameter}
use Rattle.tw_command.specs.declared.command.Parameter.TheVariants as parameters
use Rattle.tw_decl.specs.View.{View}
use Rattle.tw_server.specs.declared.reply.Reply.{Reply}
use Rattle.tw_server.specs.declared.reply.Reply.TheVariants as replies

-- the line of the version
abbrev pub version_line : List ℕ
version_line = codes "Twelf 1.4 LF profile\n"

-- the last line of a reply
abbrev pub accepted : List ℕ
accepted = codes "%% OK %%\n"

abbrev pub refused : List ℕ
refused = codes "%% ABORT %%\n"

-- it, by whether all went well
abbrev pub last_line : Bool → List ℕ
last_line true = accepted
last_line false = refused

-- the first lines of all
abbrev pub banner : List ℕ
banner = codes "Twelf 1.4 LF profile\n%% OK %%\n"

-- what is written where the words are bad
abbrev pub usage : List ℕ
usage = codes "usage: twelf [--steps N] [--generate N] [FILE]...\n"

abbrev pub no_memory : List ℕ
no_memory = codes "E0 Memory\n"

-- a truth value's word
abbrev pub truth_word : Bool → List ℕ
truth_word true = codes "true"
truth_word false = codes "false"

-- the value of a parameter
abbrev pub value_of : View → Parameter → List ℕ
value_of v parameters.Chatter = decimal v.parameters.chatter
value_of v parameters.Implicit = truth_word v.parameters.implicit
value_of v parameters.Steps = decimal v.parameters.steps

-- the lines of the refusals of commands that name a file or an entry
abbrev pub no_file : List ℕ → List ℕ
no_file name = codes "C2 NoFile " ++ name ++ codes "\n"

abbrev pub file_fault : List ℕ → List ℕ
file_fault name = codes "C3 FileFault " ++ name ++ codes "\n"

abbrev pub file_long : List ℕ → List ℕ
file_long name = codes "C4 TextLong " ++ name ++ codes "\n"

abbrev pub unknown_name : List ℕ → List ℕ
unknown_name name = codes "C7 UnknownName " ++ name ++ codes "\n"

-- the lines before and behind those of a file
abbrev pub opening : List ℕ → List ℕ
opening name = codes "[Opening file " ++ name ++ codes "]\n"

abbrev pub closing : List ℕ → List ℕ
closing name = codes "[Closing file " ++ name ++ codes "]\n"

abbrev pub reply_bytes : Reply → List ℕ
reply_bytes replies.Nothing = []
reply_bytes (replies.Accepted report) = report.items ++ accepted
reply_bytes (replies.Refused line) = line.items ++ refused
reply_bytes replies.NoMemory = no_memory ++ refused
reply_bytes replies.UnknownCommand = codes "C1 UnknownCommand\n" ++ refused
reply_bytes replies.BadParameter = codes "C6 BadParameter\n" ++ refused
reply_bytes replies.TextLong = codes "C4 TextLong\n" ++ refused
reply_bytes replies.LongLine = codes "C5 LongLine\n" ++ refused
reply_bytes replies.Done = accepted
reply_bytes replies.Version = version_line ++ accepted
reply_bytes (replies.Lines lines) = lines.items
reply_bytes replies.MemoryAlone = no_memory
reply_bytes replies.TextLongAlone = codes "C4 TextLong\n"
