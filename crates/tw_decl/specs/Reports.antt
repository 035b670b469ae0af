-- What is reported of a declaration that is accepted.
use Rattle.std.specs.Prelude.{ℕ, List}
use Rattle.tw_decl.specs.declared.report.Report.{Report}

-- the lines that are told, how many records of totality are made, and how many answers are found
pub record Reported : Type 0 where
  pub text : List ℕ
  pub totals : ℕ
  pub answers : ℕ

-- the report of a form that makes no record and asks no query
abbrev pub lines_alone : List ℕ → Reported
lines_alone lines = record { text = lines; totals = 0; answers = 0 }

-- that of a query, which found so many answers
abbrev pub with_answers : List ℕ → ℕ → Reported
with_answers lines n = record { text = lines; totals = 0; answers = n }

-- what a report in memory says
abbrev pub reported : Report → Reported
reported r = record { text = r.text.items; totals = r.totals; answers = r.answers }
