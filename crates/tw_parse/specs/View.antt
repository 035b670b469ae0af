-- The syntax that a value of the program stands for.
use Rattle.std.specs.Prelude.{Option, None, Some, Box}
use Rattle.std.specs.Option.{option_map}
use Rattle.tw_parse.specs.declared.decl.ExtDecl.{ExtDecl}
use Rattle.tw_parse.specs.declared.decl.ExtDecl.TheVariants.{Declare, Define, NamePref, Fixity}
use Rattle.std.specs.Global.{Global}
use Rattle.tw_parse.specs.Syntax as syntax
use Rattle.tw_parse.specs.declared.term.ExtTerm.{ExtTerm, fold-ExtTerm}
use Rattle.tw_parse.specs.declared.term.ExtTerm.TheOpen.{ExtTerm-F}

-- the domain of a binder whose type, if it is written, is seen as its syntax
abbrev pub domain_of : Option (Box syntax.Term Global) → syntax.Domain
domain_of None = syntax.untyped
domain_of (Some A) = syntax.typed A.value

-- one level of a term, with each part already seen as its syntax
abbrev pub term_step : ExtTerm-F syntax.Term → syntax.Term
term_step (ExtTerm-F.Ident name at) = syntax.identifier name at
term_step (ExtTerm-F.Hole at) = syntax.hole at
term_step ExtTerm-F.Star = syntax.star
term_step (ExtTerm-F.Arrow A B) = syntax.arrow A.value B.value
term_step (ExtTerm-F.Pi x at A B) = syntax.pi x at (domain_of A) B.value
term_step (ExtTerm-F.Lam x at A M) = syntax.lambda x at (domain_of A) M.value
term_step (ExtTerm-F.App M N) = syntax.application M.value N.value
term_step (ExtTerm-F.Ascribe M A) = syntax.ascription M.value A.value

unfoldable pub term_of : ExtTerm → syntax.Term
term_of = fold-ExtTerm syntax.Term term_step

-- the domain that the type in a box is
abbrev pub boxed_domain : Option (Box ExtTerm Global) → syntax.Domain
boxed_domain None = syntax.untyped
boxed_domain (Some A) = syntax.typed (term_of A.value)

abbrev pub declaration_of : ExtDecl → syntax.Declaration
declaration_of (Declare name at A) = syntax.declare name at (term_of A)
declaration_of (Define name A M abbreviated) = syntax.define name (option_map term_of A) (term_of M) abbreviated
declaration_of (NamePref a upper lower) = syntax.prefer a upper lower
declaration_of (Fixity fix names) = syntax.give fix names.items
