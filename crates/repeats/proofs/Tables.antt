-- The tables with copies of the last atoms: the entries of a copy are those of the copy before, and so those of the atoms. Assumes nothing.
use mathlib.Core.Path.{◌≡◌, sym, ap, ◌∙◌, subst}
use mathlib.Core.Logic.{⊎_elim}
use mathlib.Core.List.{List, ◌∷◌, ◌++◌}
use Prim.Native.Nat.{ℕ, zero, suc, ◌+◌, ◌-◌, ◌*◌, ◌≤◌, ◌<◌}
use native.Mathlib.Nat.{suc-mul, zero-mul, mul-le-mul_right}
use native.Mathlib.Omega.{arith}
use lib.ListN.{length, get_or, length-append, get_or-append, get_or-eq_default}
use lib.Seq.{take_all, get_or-append-add}
use Rattle.basics.proofs.Tests.{le_or_lt}
use Rattle.set_table.specs.declared.Tables.{Tables}
use Rattle.set_table.specs.Tables.{entry_at, Repeats}
use Rattle.pattern.specs.Parts.{Atom}
use Rattle.pattern.specs.Grammar.{no_atom}
use Rattle.parsed.specs.Tables.{atom_of, Stored}
use Rattle.parsed.proofs.Storing.{Fits}

module _ (al xs : List Atom) where
  abbrev n : ℕ
  n = length al

  abbrev w : ℕ
  w = length xs

  -- al, and j times xs
  abbrev pub with : ℕ → List Atom
  with zero = al
  with (suc j) = with j ++ xs

  with_length : (j : ℕ) → length (with j) ≡ n + j * w
  with_length zero = let z = zero-mul w in omega arith
  with_length (suc j) = let l = length-append (with j) xs in let o = suc-mul j w in let i = with_length j in omega arith

  -- entries of any kind
  module _ {F : Type 0} (Has : F → Atom → Type 0) (k : ℕ) (few : n + suc k * w ≤ 60) (shown shown' : ℕ → F) (base : (i : ℕ) → Has (shown i) (atom_of (al ++ xs) i))
      (below : (i : ℕ) → i < n + 1 + w → shown' i ≡ shown i) (copied : (i : ℕ) → n + 1 ≤ i → i < n + 1 + k * w → shown' (i + w) ≡ shown' i) (above : (i : ℕ) → n + 1 + k * w + w ≤ i → shown' i ≡ shown i) where
    entry : ℕ → ℕ → Atom
    entry j i = get_or (no_atom ∷ with j) i no_atom

    -- the last copy of xs, by how far in it
    in_last : (j r : ℕ) → entry (suc j) (suc (length (with j)) + r) ≡ get_or xs r no_atom
    unfolding entry
    in_last j r = get_or-append-add (no_atom ∷ with j) xs r no_atom

    first_few : (j : ℕ) → j ≤ k → n + suc j * w ≤ 60
    first_few j h = let m = mul-le-mul_right {m = suc j} {n = suc k} w (omega arith) in omega arith

    up_to : (j : ℕ) → j ≤ k → (i : ℕ) → i ≤ n + suc j * w → Has (shown' i) (entry (suc j) i)
    unfolding entry
    up_to zero h i l =
        let o = suc-mul 0 w in
        let z = zero-mul w in
        subst (λ (f : F). Has f (get_or (no_atom ∷ (al ++ xs)) i no_atom)) (sym (below i (omega arith)))
        (subst (λ (ys : List Atom). Has (shown i) (get_or (no_atom ∷ ys) i no_atom)) (take_all 60 (al ++ xs) (let l = length-append al xs in let f = first_few 0 h in omega arith)) (base i))
    up_to (suc j) h i l =
        ⊎_elim
        (λ e. subst (Has (shown' i)) (sym (get_or-append (no_atom ∷ with (suc j)) xs no_atom i (let m = with_length (suc j) in omega arith))) (up_to j (omega arith) i e))
        (λ e.
        let o = suc-mul (suc j) w in
        let p = suc-mul j w in
        let m = with_length (suc j) in
        let m₀ = with_length j in
        let t = mul-le-mul_right {m = suc j} {n = k} w h in
        let r = i - suc (length (with (suc j))) in
        let here : i ≡ suc (length (with (suc j))) + r = omega arith in
        let back : i ≡ (i - w) + w = omega arith in
        let there : i - w ≡ suc (length (with j)) + r = omega arith in
        subst (λ (f : F). Has f (entry (suc (suc j)) i)) (sym (ap shown' back ∙ copied (i - w) (omega arith) (omega arith)))
        (subst (Has (shown' (i - w))) (ap (entry (suc j)) there ∙ in_last j r ∙ sym (ap (entry (suc (suc j))) here ∙ in_last (suc j) r)) (up_to j (omega arith) (i - w) (omega arith)))) (le_or_lt i (n + suc j * w))

    pub all_copies : (i : ℕ) → Has (shown' i) (atom_of (with (suc k)) i)
    unfolding entry
    all_copies i =
        let m = with_length (suc k) in
        let o = suc-mul k w in
        subst (λ (ys : List Atom). Has (shown' i) (get_or (no_atom ∷ ys) i no_atom)) (sym (take_all 60 (with (suc k)) (omega arith)))
        (⊎_elim (λ l. up_to k (omega arith) i l)
        (λ l.
        let p : length (al ++ xs) ≡ n + w = length-append al xs in
        subst (λ (f : F). Has f (get_or (no_atom ∷ with (suc k)) i no_atom)) (sym (above i (omega arith)))
        (subst (Has (shown i)) (ap (λ (ys : List Atom). get_or (no_atom ∷ ys) i no_atom) (take_all 60 (al ++ xs) (omega arith)) ∙ get_or-eq_default (no_atom ∷ (al ++ xs)) no_atom {n = i} (omega arith) ∙ sym (get_or-eq_default (no_atom ∷ with (suc k)) no_atom {n = i} (omega arith))) (base i))) (le_or_lt i (n + suc k * w)))

pub stored_copies : (al xs : List Atom) (k : ℕ) (tables tables' : Tables) → 0 < length xs → length al + suc k * length xs ≤ 60
    → Repeats (length al + 1) (length al + 1 + k * length xs) (length xs) tables tables' → Stored (al ++ xs) tables.sets tables.credits → Stored (with al xs (suc k)) tables'.sets tables'.credits
stored_copies al xs k tables tables' some few r st = record { has = λ i. (fits i).has; credit = λ i. (fits i).credit; small = λ i. (fits i).small }
  where
    fits : (i : ℕ) → Fits (entry_at tables' i) (atom_of (with al xs (suc k)) i)
    fits =
        let o = suc-mul k (length xs) in
        all_copies al xs Fits k few (entry_at tables) (entry_at tables') (λ i. record { has = st.has i; credit = st.credit i; small = st.small i }) r.below r.copied r.above
