use Rattle.together.proofs.LoadLemmas.{empty_law, first_text_law, load_law, takes_law, text_law}
use Rattle.together.proofs.ScriptLemmas.{script_law}
use Rattle.together.proofs.loading_laws.Goals as goal

pub returns : goal.returns
returns c = record { none = empty_law; all = load_law; text = text_law; first_text = first_text_law; takes = takes_law; script = script_law }
