use Rattle.ilp_rules.proofs.OwnKeys.{own_keys, keys_apart, key_earlier}
use Rattle.ilp_rules.proofs.laws.settlements_have_own_keys.Goals as goal

pub returns : goal.returns
returns c = record {
  within = own_keys;
  between = λ C D p q m n run fits_p fits_q fits_m fits_n same. keys_apart p q fits_p fits_q m n fits_m fits_n C D run same;
  onward = λ book n a next valid lawful run is. key_earlier book n a valid lawful is next run;
}
