-- How many letters of an answer marking takes: up to and with the first after which no state is possible.
use Rattle.std.specs.Prelude.{Bool, true, not, List, [], ◌∷◌, ℕ, suc, eqb, length, get_or, take}
use Rattle.basics.specs.Folds.{any_if, list_if}
use Rattle.graph.specs.Graph.{Graph, step}

-- [Possible states] do the letters s lead from state u to state v: by a position for each, which may come next and whose set holds it
abbrev pub leads : Graph → ℕ → List ℕ → ℕ → Bool
leads g u [] v = eqb u v
leads g u (b ∷ s) v = any_if (step g u b) (λ i. leads g i s v) (suc g.positions)

-- [Possible states] after the letters s a state is possible if they lead there from before any letter: after none, that is 0 alone
abbrev pub possible : Graph → List ℕ → ℕ → Bool
possible g s v = leads g 0 s v

-- after them no state is possible
abbrev pub dead : Graph → List ℕ → Bool
dead g s = not (any_if (possible g s) (λ v. true) (suc g.positions))

-- [Letters taken] the least number of letters after which no state is possible, all letters where there is none
abbrev pub letters_taken : Graph → List ℕ → ℕ
letters_taken g s = get_or (list_if (λ n. dead g (take n s)) (length s)) 0 (length s)
