-- How a code is printed.
use Rattle.std.specs.Prelude.{ℕ, List, codes}
use Rattle.mfcsv.specs.declared.Code.{Code}
use Rattle.mfcsv.specs.declared.Code.TheVariants.{F1, F2, F3, F4, F5, F6, F7, F8, F11, F12, F13, F14, F15, F16, F17}

-- the code of a fault of a file, as it is printed
abbrev pub code_text : Code → List ℕ
code_text F1 = codes "F1"
code_text F2 = codes "F2"
code_text F3 = codes "F3"
code_text F4 = codes "F4"
code_text F5 = codes "F5"
code_text F6 = codes "F6"
code_text F7 = codes "F7"
code_text F8 = codes "F8"
code_text F11 = codes "F11"
code_text F12 = codes "F12"
code_text F13 = codes "F13"
code_text F14 = codes "F14"
code_text F15 = codes "F15"
code_text F16 = codes "F16"
code_text F17 = codes "F17"
