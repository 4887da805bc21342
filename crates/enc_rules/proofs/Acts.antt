-- A statement by its layer.
use Rattle.std.proofs.Common.{◌≡◌, Some, None, refl, ap, ◌∙◌}
use Rattle.enc_ast.specs.declared.rules.Span.{Span}
use Rattle.enc_ast.specs.declared.Stmt.{Stmt}
use Rattle.enc_ast.specs.declared.StmtForm.{StmtForm, out-StmtForm}
use Rattle.enc_ast.specs.declared.StmtForm.TheOpen.{StmtForm-F}
use Rattle.enc_ast.specs.declared.StmtForm.TheFolds.{map-StmtForm, fold-StmtForm, fold_out-StmtForm, fold_out-Stmt}
use Rattle.enc_rules.specs.Stmts.{Act, act, acts, act_form, act_node}
use Rattle.enc_rules.specs.Typing.{Layer}

-- a layer, with its parts as the rules see them
abbrev pub seen : Layer → StmtForm-F (Span → Act) Act
seen (StmtForm-F.Let x src) = StmtForm-F.Let x src
seen (StmtForm-F.Assign x y) = StmtForm-F.Assign x y
seen (StmtForm-F.Store v x y) = StmtForm-F.Store v x y
seen (StmtForm-F.Call to m xs) = StmtForm-F.Call to m xs
seen (StmtForm-F.Send to m xs) = StmtForm-F.Send to m xs
seen (StmtForm-F.If x a None) = StmtForm-F.If x (acts a) None
seen (StmtForm-F.If x a (Some b)) = StmtForm-F.If x (acts a) (Some (acts b))
seen (StmtForm-F.While x a) = StmtForm-F.While x (acts a)
seen (StmtForm-F.Atomic x a) = StmtForm-F.Atomic x (acts a)
seen (StmtForm-F.Split x y t z u) = StmtForm-F.Split x y t z u
seen (StmtForm-F.Pack x y z a b) = StmtForm-F.Pack x y z (acts a) (acts b)
seen (StmtForm-F.Choose x t y) = StmtForm-F.Choose x t y
seen (StmtForm-F.Return x) = StmtForm-F.Return x
seen (StmtForm-F.Print xs) = StmtForm-F.Print xs
seen StmtForm-F.Suspend = StmtForm-F.Suspend

-- a layer of the fold
map_seen : (l : Layer) → map-StmtForm StmtForm Stmt (Span → Act) Act (fold-StmtForm (Span → Act) Act act_form act_node) act l ≡ seen l
map_seen (StmtForm-F.Let x src) = refl
map_seen (StmtForm-F.Assign x y) = refl
map_seen (StmtForm-F.Store v x y) = refl
map_seen (StmtForm-F.Call to m xs) = refl
map_seen (StmtForm-F.Send to m xs) = refl
map_seen (StmtForm-F.If x a None) = refl
map_seen (StmtForm-F.If x a (Some b)) = refl
map_seen (StmtForm-F.While x a) = refl
map_seen (StmtForm-F.Atomic x a) = refl
map_seen (StmtForm-F.Split x y t z u) = refl
map_seen (StmtForm-F.Pack x y z a b) = refl
map_seen (StmtForm-F.Choose x t y) = refl
map_seen (StmtForm-F.Return x) = refl
map_seen (StmtForm-F.Print xs) = refl
map_seen StmtForm-F.Suspend = refl

-- a statement by its layer
pub act_layer : (x : Stmt) → act x ≡ act_form (seen (out-StmtForm x.form)) x.span
unfolding act
act_layer x =
    fold_out-Stmt (Span → Act) Act act_form act_node x ∙
    (ap (λ z. z x.span) (fold_out-StmtForm (Span → Act) Act act_form act_node x.form) ∙ ap (λ z. act_form z x.span) (map_seen (out-StmtForm x.form)))
