-- How a line's code is printed.
use Rattle.std.specs.Prelude.{ℕ, List, codes}
use Rattle.querylang.specs.declared.LineCode.{LineCode}
use Rattle.querylang.specs.declared.LineCode.TheVariants.{Q1, Q2, Q3, Q4, Q5, Q6, Q7, Q8}

-- the code of a refused line, as it is printed
abbrev pub line_code_text : LineCode → List ℕ
line_code_text Q1 = codes "Q1"
line_code_text Q2 = codes "Q2"
line_code_text Q3 = codes "Q3"
line_code_text Q4 = codes "Q4"
line_code_text Q5 = codes "Q5"
line_code_text Q6 = codes "Q6"
line_code_text Q7 = codes "Q7"
line_code_text Q8 = codes "Q8"
