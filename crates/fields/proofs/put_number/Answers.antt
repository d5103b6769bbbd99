-- The digits that are the fewest are the number's decimal form. Assumes nothing.
use mathlib.Core.Path.{sym, subst, ◌∙◌}
use mathlib.Core.List.{List, [], ◌∷◌, ◌++◌}
use Prim.Native.Nat.{ℕ, ◌+◌, ◌<◌}
use lib.ListN.{length}
use Rattle.fields.specs.Fields.{Puts}
use Rattle.fields.proofs.Fields.{fewest_decimal}
use Rattle.fields.proofs.put_number.Goals as goal

pub put-requires : goal.put-requires
put-requires c =
    let a = c.args in
    let d = c.decimal-k in
    subst (λ (t : List ℕ). a.at + length t < length a.out.now) (sym (d.ensures.digits ∙ fewest_decimal d.result a.n d.ensures.len)) c.requires

pub returns : goal.returns
returns c =
    let a = c.args in
    let d = c.decimal-k in
    subst (λ (t : List ℕ). Puts (t ++ (a.end ∷ [])) a.out.now a.at c.put.new.out c.put.result) (d.ensures.digits ∙ fewest_decimal d.result a.n d.ensures.len) c.put.ensures
