use Rattle.together.proofs.FaultLemmas.{accept_law, faults_law, first_law, fits_law, part_faults_law, part_fits_law, stay_law}
use Rattle.together.proofs.LateLemmas.{late_law, least_law, part_law}
use Rattle.together.proofs.RiseLemmas.{rises_law}
use Rattle.together.proofs.SumLemmas.{load_count_law}
use Rattle.together.proofs.joining_laws.Goals as goal

pub returns : goal.returns
returns c = record {
  part = λ f k whole part of is own_is. record {
    too_early = λ records. late_law f k whole part records of is own_is;
    stays = λ records. part_law f k whole part records of is own_is;
    part_fits = λ limits records. part_fits_law f k whole part limits records of is own_is;
    part_faults = λ own_limits file. part_faults_law f k whole part own_limits file of is own_is;
    after = λ limits own_limits file a b. stay_law f k whole part limits own_limits file a b of is own_is;
  };
  parts = λ f n whole parts are. record {
    accepts = λ limits own_limits file. accept_law f n whole parts limits own_limits file are;
    counted = λ limits own_limits file legs own. load_count_law f n whole parts limits own_limits file legs own are;
  };
  faults = faults_law;
  fits = fits_law;
  first = first_law;
  least = least_law;
  rises = rises_law;
}
