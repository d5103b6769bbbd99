-- What the rules leave of a text is the end of it, whatever they read. Assumes nothing.
use mathlib.Core.Path.{◌≡◌, sym, ap, ◌∙◌, subst}
use mathlib.Core.Bool.{Bool, true, false, ◌&&◌, not, true≢false}
use mathlib.Core.List.{List, [], ◌∷◌, ◌++◌, append-nil, append_assoc}
use Prim.Native.Nat.{ℕ, zero, suc, ◌≤◌, ◌<◌}
use Prim.Native.Char.{code}
use native.Mathlib.Omega.{arith}
use lib.Dec.{eqb}
use lib.ListN.{length, take, drop, get_or, length-append, take-append-drop}
use Rattle.std.specs.Prelude.{if◌then◌else◌}
use Rattle.basics.specs.Bytes.{is_in}
use Rattle.basics.proofs.Tests.{if_either}
use Rattle.pattern.specs.Parts.{Item, Bounds, Part}
use Rattle.pattern.specs.Grammar.{Read, read, peek, special, class_letter, class_letter_long, Items, items_from, Credit, credit_digit, read_credit, with_credit, read_class, read_letter, Bound, bound, is_digit, digit_more, read_bound, Interval, interval, read_interval}

-- rest is the end of text
pub record Ends (text rest : List ℕ) : Type 0 where
  pub taken : List ℕ
  pub is : text ≡ taken ++ rest

ends_drop : (k : ℕ) (text : List ℕ) → Ends text (drop k text)
ends_drop k text = record { taken = take k text; is = sym (take-append-drop k text) }

ends_whole : (text : List ℕ) → Ends text text
ends_whole text = ends_drop 0 text

ends_none : (text : List ℕ) → Ends text []
ends_none text = record { taken = text; is = sym (append-nil text) }

ends_more : {a b c : List ℕ} → Ends a b → Ends b c → Ends a c
ends_more {c = c} x y = record { taken = x.taken ++ y.taken; is = x.is ∙ ap (λ (t : List ℕ). x.taken ++ t) y.is ∙ sym (append_assoc x.taken y.taken c) }

pub ends_length : {text rest : List ℕ} → Ends text rest → length rest ≤ length text
ends_length {text} {rest} e = omega (arith, ap length e.is, length-append e.taken rest)

-- ---- the rules

items_ends : (f : ℕ) (is : List Item) (text : List ℕ) → Ends text (items_from f is text).rest
items_ends zero is text = ends_none text
items_ends (suc f) is text =
    let t = drop (class_letter_long text) text in
    let u = drop (suc (class_letter_long (drop 1 t))) t in
    let P : Items → Type 0 = λ X. Ends text X.rest in
    if_either P _ _ (eqb (class_letter text) 0) (λ _. ends_drop 1 text)
    (λ _.
    if_either P _ _ (eqb (peek t) (code "-"))
    (λ _.
    if_either P _ _ (eqb (class_letter (drop 1 t)) 0) (λ _. ends_none text)
    (λ _. ends_more (ends_drop (class_letter_long text) text) (ends_more (ends_drop (suc (class_letter_long (drop 1 t))) t) (items_ends f _ u))))
    (λ _. ends_more (ends_drop (class_letter_long text) text) (items_ends f _ t)))

credit_ends : (text : List ℕ) → Ends text (read_credit text).rest
credit_ends text =
    let d = get_or text 1 0 in
    let P : Credit → Type 0 = λ C. Ends text C.rest in
    if_either P _ _ (not (eqb (peek text) (code "="))) (λ _. ends_whole text)
    (λ _. if_either P _ _ (credit_digit d) (λ _. ends_drop 2 text) (λ _. if_either P _ _ (eqb d (code "-") && credit_digit (get_or text 2 0)) (λ _. ends_drop 3 text) (λ _. ends_none text)))

with_credit_ends : (o : Bool) (is : List Item) (text : List ℕ) → Ends text (with_credit o is text).rest
with_credit_ends o is text = if_either (λ (R : Read). Ends text R.rest) _ _ (read_credit text).good (λ _. credit_ends text) (λ _. ends_none text)

class_ends : (text : List ℕ) → Ends text (read_class text).rest
class_ends text =
    let o = eqb (peek text) (code "^") in
    let x = items_from (suc (length text)) [] (if o then drop 1 text else text) in
    if_either (λ (R : Read). Ends text R.rest) _ _ x.good
    (λ _. ends_more (ends_more (if_either (Ends text) _ _ o (λ _. ends_drop 1 text) (λ _. ends_whole text)) (items_ends (suc (length text)) [] _)) (with_credit_ends o x.items x.rest))
    (λ _. ends_none text)

-- a lettered atom takes a byte at least
pub letter_ends : (b : ℕ) (text : List ℕ) → Ends text (read_letter (b ∷ text)).rest
letter_ends b text =
    let P : Read → Type 0 = λ R. Ends text R.rest in
    if_either P _ _ (eqb b (code "[")) (λ _. class_ends text)
    (λ _.
    if_either P _ _ (eqb b (code ".")) (λ _. with_credit_ends true [] text)
    (λ _.
    if_either P _ _ (eqb b (code "\\"))
    (λ _. if_either P _ _ (is_in (peek text) special) (λ _. ends_more (ends_drop 1 text) (with_credit_ends false _ (drop 1 text))) (λ _. ends_none text))
    (λ _. if_either P _ _ (is_in b special) (λ _. ends_none text) (λ _. with_credit_ends false _ text))))

digit_ends : (text : List ℕ) (b : Bound) → Ends text b.rest → Ends text (digit_more b).rest
digit_ends text b e = if_either (λ (x : Bound). Ends text x.rest) _ b (is_digit (peek b.rest)) (λ _. ends_more e (ends_drop 1 b.rest)) (λ _. e)

bound_ends : (text : List ℕ) → Ends text (read_bound text).rest
bound_ends text = digit_ends text _ (digit_ends text _ (digit_ends text (bound 0 text) (ends_whole text)))

pub interval_ends : (text : List ℕ) → Ends text (read_interval text).rest
interval_ends text =
    let m = read_bound text in
    let t = drop 1 m.rest in
    let n = read_bound t in
    let P : Interval → Type 0 = λ I. Ends text I.rest in
    let after : Ends text t = ends_more (bound_ends text) (ends_drop 1 m.rest) in
    if_either P _ _ (not (is_digit (peek text))) (λ _. ends_none text)
    (λ _.
    if_either P _ _ (eqb (peek m.rest) (code "}")) (λ _. after)
    (λ _.
    if_either P _ _ (not (eqb (peek m.rest) (code ","))) (λ _. ends_none text)
    (λ _.
    if_either P _ _ (eqb (peek t) (code "}")) (λ _. ends_more after (ends_drop 1 t))
    (λ _.
    if_either P _ _ (is_digit (peek t) && eqb (peek n.rest) (code "}")) (λ _. ends_more after (ends_more (bound_ends t) (ends_drop 1 n.rest))) (λ _. ends_none text)))))

-- ---- the length of what is left

pub letter_on : (text : List ℕ) (p : Part) (rest : List ℕ) → read_letter text ≡ read p rest → length rest < length text
letter_on [] p rest e = absurd (true≢false (sym (ap (λ (R : Read). R.good) e)))
letter_on (b ∷ text) p rest e = omega (arith, ends_length (subst (Ends text) (ap (λ (R : Read). R.rest) e) (letter_ends b text)))

pub interval_on : (text : List ℕ) (b : Bounds) (rest : List ℕ) → read_interval text ≡ interval b rest → length rest ≤ length text
interval_on text b rest e = ends_length (subst (Ends text) (ap (λ (I : Interval). I.rest) e) (interval_ends text))
