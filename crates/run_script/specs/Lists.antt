-- The texts of lists and times. Assumes nothing.
use Rattle.std.specs.Prelude.{ℕ, List, [], ◌∷◌, ◌++◌, codes, decimal}
use Rattle.std.specs.List.{flat_map}

-- the pieces with a space between each two, or `none`
abbrev pub list_text : List (List ℕ) → List ℕ
list_text [] = codes "none"
list_text (x ∷ xs) = x ++ flat_map (λ y. codes " " ++ y) xs

-- numbers with a comma between each two
abbrev pub numbers_text : List ℕ → List ℕ
numbers_text [] = []
numbers_text (n ∷ ns) = decimal n ++ flat_map (λ m. codes "," ++ decimal m) ns

abbrev pub time_written : List ℕ → List ℕ
time_written time = codes "(" ++ (numbers_text time ++ codes ")")
