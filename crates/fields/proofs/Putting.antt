-- Texts put into a slice one after the other are their joined text put there, and what is put at its start are its first bytes.
-- Assumes nothing.
use mathlib.Core.Path.{◌≡◌, refl, sym, ap, ap₂, ◌∙◌, subst}
use mathlib.Core.List.{List, [], ◌∷◌, ◌++◌, append_assoc}
use Prim.Native.Nat.{ℕ, suc, ◌+◌, ◌-◌, ◌≤◌}
use native.Mathlib.Nat.{add-zero}
use native.Mathlib.Omega.{arith}
use lib.ListN.{length, take, drop, set, length-append}
use lib.Seq.{sets, sets-eq, length-sets, take_at, length-take-le}
use borrow.Rule.Slice.PartMut.{put_mid}
use Rattle.std.proofs.lemmas.List.{drop-drop}
use Rattle.io.specs.Counts.{IsPrefixLen}
use Rattle.fields.specs.Fields.{Puts}

pub sets_append : (s t l : List ℕ) (i : ℕ) → sets (sets l i s) (i + length s) t ≡ sets l i (s ++ t)
sets_append [] t l i = ap (λ (k : ℕ). sets l k t) (add-zero i)
sets_append (x ∷ s) t l i =
    let e : i + suc (length s) ≡ suc i + length s = omega arith in
    ap (λ (k : ℕ). sets (sets l i (x ∷ s)) k t) e ∙ sets_append s t (sets l i (x ∷ [])) (suc i)

pub puts_then : {s t old mid new : List ℕ} {a m r : ℕ} → Puts s old a mid m → Puts t mid m new r → Puts (s ++ t) old a new r
puts_then {s} {t} {old} {mid} {new} {a} {m} {r} p q = record {
  bytes = q.bytes ∙ ap (λ (l : List ℕ). sets l m t) p.bytes ∙ ap (λ (k : ℕ). sets (sets old a s) k t) p.end ∙ sets_append s t old a;
  end = simp length-append (omega arith);
}

pub puts_kept : {s old new : List ℕ} {a r : ℕ} → Puts s old a new r → length new ≡ length old
puts_kept {s} {old} {new} {a} p = ap length p.bytes ∙ length-sets old a s

-- a line by another name
pub puts_same : {text line old new : List ℕ} {a r : ℕ} → Puts text old a new r → text ≡ line → Puts line old a new r
puts_same {text} {line} {old} {new} {a} {r} p e = subst (λ (t : List ℕ). Puts t old a new r) e p

-- ---- one byte, and a text copied into the slice

pub puts_byte : (l : List ℕ) (a b : ℕ) → Puts (b ∷ []) l a (set l a b) (a + 1)
puts_byte l a b = record { bytes = refl; end = refl }

pub puts_copied : (text part old : List ℕ) (a : ℕ) → a + length text ≤ length old → part ≡ text → Puts text old a (put_mid a (a + length text - a) old part) (a + length text)
puts_copied text part old a h e =
    let k : a + length text - a ≡ length text = omega arith in
    record {
      bytes = ap₂ (λ (j : ℕ) (p : List ℕ). put_mid a j old p) k e
          ∙ ap (λ (t : List ℕ). take a old ++ (text ++ t)) (drop-drop (length text) a old)
          ∙ sym (simp append_assoc at (sets-eq text old a h));
      end = refl;
    }

-- ---- a text put at the slice's start, which has room for it

module _ {text old new : List ℕ} {len : ℕ} (p : Puts text old 0 new len) (fits : len ≤ length old) where
  -- its length counts bytes of the slice
  pub puts_counts : IsPrefixLen len new
  puts_counts =
      let k = puts_kept p in
      let l : len ≤ length new = omega arith in
      (l, sym (length-take-le len new l))

  -- and the slice's first bytes are the text
  pub puts_bytes : take len new ≡ text
  puts_bytes =
      let e : len ≡ 0 + length text = p.end in
      ap (take len) (p.bytes ∙ sets-eq text old 0 (omega arith)) ∙ take_at text (drop (0 + length text) old) len (omega arith)
