use Rattle.together.proofs.MergeLemmas.{box_merge, features_answer_merge, legs_answer_merge, legs_merge, names_merge}
use Rattle.together.proofs.CountLemmas.{count_law}
use Rattle.together.proofs.FaultLemmas.{book_law}
use Rattle.together.proofs.FeatureLemmas.{features_law, track_law}
use Rattle.together.proofs.NamedLemmas.{trajectory_law}
use Rattle.together.proofs.ToldLemmas.{box_law, legs_law, legs_told, names_told}
use Rattle.together.proofs.LineLemmas.{line_law}
use Rattle.together.proofs.answer_laws.Goals as goal

pub returns : goal.returns
returns c = record {
  legs_text = legs_told;
  names_text = names_told;
  part = λ f k whole part of. record {
    by_box = λ query. box_law f k whole part query of;
    by_predicate = λ predicate rect period all own. legs_law f k whole part predicate rect period all own of;
    of_features = λ predicate rect period all own. features_law f k whole part predicate rect period all own of;
    trajectory = λ name. trajectory_law f k whole part name of;
    track = λ name of_name. track_law f k whole part name of_name of;
  };
  legs_merge = legs_merge;
  names_merge = names_merge;
  parts = λ f n whole parts are. record {
    counts = count_law f n whole parts are;
    lines = λ limits own_limits files own_files line text own. line_law f n whole parts limits own_limits files own_files line text own are;
    box_merge = λ query. box_merge f n whole parts query are;
    legs_answer_merge = λ predicate rect period all own. legs_answer_merge f n whole parts predicate rect period all own are;
    features_answer_merge = λ predicate rect period all own. features_answer_merge f n whole parts predicate rect period all own are;
  };
  book = book_law;
}
