-- Where a reader stands among the tokens of a declaration, and how far it can go.
use Rattle.std.specs.Prelude.{List, [], ◌∷◌, Bool, true, false, Option, None, Some, if◌then◌else◌}
use Rattle.tw_parse.specs.Keywords.{form_of}
use Rattle.tw_parse.specs.Words.{Lexeme, is_bindable}
use Rattle.tw_parse.specs.declared.words.Binder.{Binder}
use Rattle.tw_parse.specs.declared.words.Binder.TheVariants.{Pi, Lambda}
use Rattle.tw_parse.specs.declared.words.Form.{Form}
use Rattle.tw_parse.specs.declared.words.Form.TheVariants.{Abbreviation}
use Rattle.tw_parse.specs.declared.words.Word.{Word}
use Rattle.tw_parse.specs.declared.words.Word.TheVariants.{Name, Forward, Backward, Underscore, Star, Equals, Keyword, Colon, Dot, LParen, RParen, LBrace, RBrace, LBracket, RBracket}

-- a bracket with a sequence in it: a parenthesis, or the type of a binder
pub data Frame : Type 0 where
  paren : Frame
  domain : Binder → Frame

-- in a sequence, which may have begun; behind the bracket of a binder; behind its name
pub data Spot : Type 0 where
  inside : Bool → Spot
  opened : Binder → Spot
  named : Binder → Spot

-- the token closes the innermost bracket
abbrev pub close : Bool → List Frame → Word → Option (Spot × List Frame)
close false frames w = None
close true [] w = None
close true (paren ∷ frames) RParen = Some (inside true, frames)
close true (paren ∷ frames) _ = None
close true (domain Pi ∷ frames) RBrace = Some (inside false, frames)
close true (domain Pi ∷ frames) _ = None
close true (domain Lambda ∷ frames) RBracket = Some (inside false, frames)
close true (domain Lambda ∷ frames) _ = None

abbrev pub go : Bool → List Frame → Word → Option (Spot × List Frame)
go b frames Name = Some (inside true, frames)
go b frames Forward = Some (inside true, frames)
go b frames Backward = Some (inside true, frames)
go b frames Underscore = Some (inside true, frames)
go b frames Star = Some (inside true, frames)
go b frames Colon = Some (inside true, frames)
go b frames LParen = Some (inside false, paren ∷ frames)
go b frames LBrace = Some (opened Pi, frames)
go b frames LBracket = Some (opened Lambda, frames)
go b frames w = close b frames w

abbrev pub go_named : Binder → List Frame → Word → Option (Spot × List Frame)
go_named Pi frames Colon = Some (inside false, domain Pi ∷ frames)
go_named Pi frames RBrace = Some (inside false, frames)
go_named Pi frames _ = None
go_named Lambda frames Colon = Some (inside false, domain Lambda ∷ frames)
go_named Lambda frames RBracket = Some (inside false, frames)
go_named Lambda frames _ = None

-- where a token of a sequence leads
abbrev pub next : Spot → List Frame → Word → Option (Spot × List Frame)
next (inside b) frames w = go b frames w
next (opened binder) frames w = if is_bindable w then Some (named binder, frames) else None
next (named binder) frames w = go_named binder frames w

abbrev pub steps : Option (Spot × List Frame) → List Lexeme → Option (Spot × List Frame)
steps p [] = p
steps None (x ∷ xs) = None
steps (Some p) (x ∷ xs) = steps (next p.0 p.1 x.word) xs

-- what may stand behind a sequence of a declaration
pub data Ending : Type 0 where
  either : Ending
  by_equals : Ending
  by_dot : Ending

-- before a declaration; in one of a form without terms; behind `%abbrev`; behind the declared name; in a sequence; behind the dot
pub data State : Type 0 where
  start : State
  free : State
  abbreviation : State
  behind : Ending → State
  reading : Ending → Spot → List Frame → State
  done : State

abbrev pub begin_keyword : Option Form → Option State
begin_keyword (Some Abbreviation) = Some abbreviation
begin_keyword _ = Some free

abbrev pub begin : Lexeme → Word → Option State
begin x Name = Some (behind either)
begin x Underscore = Some (behind by_equals)
begin x Keyword = begin_keyword (form_of x.bytes)
begin x _ = None

abbrev pub name_next : Word → Option State
name_next Name = Some (behind by_equals)
name_next _ = None

abbrev pub behind_next : Ending → Word → Option State
behind_next e Colon = Some (reading e (inside false) [])
behind_next e Equals = Some (reading by_dot (inside false) [])
behind_next e _ = None

abbrev pub end_next : Ending → Word → Option State
end_next either Dot = Some done
end_next either Equals = Some (reading by_dot (inside false) [])
end_next either _ = None
end_next by_equals Equals = Some (reading by_dot (inside false) [])
end_next by_equals _ = None
end_next by_dot Dot = Some done
end_next by_dot _ = None

-- a token that can't go on with the sequence
abbrev pub leave : Ending → Spot → List Frame → Word → Option State
leave e (inside true) [] w = end_next e w
leave e _ _ w = None

abbrev pub lead : Ending → Spot → List Frame → Word → Option (Spot × List Frame) → Option State
lead e spot frames w (Some p) = Some (reading e p.0 p.1)
lead e spot frames w None = leave e spot frames w

abbrev pub next_state : State → Lexeme → Option State
next_state start x = begin x x.word
next_state free x = Some free
next_state abbreviation x = name_next x.word
next_state (behind e) x = behind_next e x.word
next_state (reading e spot frames) x = lead e spot frames x.word (next spot frames x.word)
next_state done x = None

abbrev pub runs : Option State → List Lexeme → Option State
runs s [] = s
runs None (x ∷ xs) = None
runs (Some s) (x ∷ xs) = runs (next_state s x) xs

-- not at the end of the outermost sequence
abbrev pub IsWithin : Spot → List Frame → Type 0
IsWithin (inside true) [] = ⊥
IsWithin _ _ = Unit {0}
