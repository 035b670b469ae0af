-- What the values of the program stand for.
use Rattle.std.specs.Prelude.{ℕ, List, [], ◌∷◌}
use Rattle.std.specs.Ordering.{nat_cmp}
use Rattle.std.specs.Coded.{Coded, coded_ℕ, coded×, coded_list, coded_option}
use Rattle.std.specs.FinMap as map
use Rattle.tw_print.specs.Names.{Preferences}
use Rattle.tw_print.specs.declared.names.Preference.{Preference}

abbrev pub preference_code : Coded Preferences
preference_code = coded× (coded_list coded_ℕ) (coded_option (coded_list coded_ℕ))

abbrev pub preferences_of : Preference → Preferences
preferences_of p = (p.upper, p.lower)

-- the map that these rows make
abbrev pub preference_rows : List (ℕ × Preference) → map.FinMap nat_cmp Preferences
preference_rows [] = map.empty
preference_rows (row ∷ rows) = map.insert (preference_rows rows) row.0 (preferences_of row.1)
