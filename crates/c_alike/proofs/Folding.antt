-- A meaning of trees by their forms, one level at a time: where it is the same with the fixed place at each level, it is so of whole trees.
use Rattle.std.proofs.Common.{◌≡◌, List, [], ◌∷◌, map, Some, None, option_map, refl, sym, ap, subst, ◌∙◌}
use Rattle.c_text.specs.declared.place.Place.{Place}
use Rattle.c_tree.specs.declared.expression.Expr.{Expr, Expr-F, fold-Expr, fold_out-Expr, ind-Expr, fold-roll-Expr, roll-Expr, map-Expr}
use Rattle.c_tree.specs.declared.expression.ExprKind.{ExprKind, fold-ExprKind, fold-roll-ExprKind, roll-ExprKind, map-ExprKind}
use Rattle.c_tree.specs.declared.expression.ExprKind.TheOpen.{ExprKind-F}
use Rattle.c_tree.specs.declared.expression.ExprKind.TheVariants as k
use Rattle.c_tree.specs.declared.statement.Stmt.{Stmt, Stmt-F, fold-Stmt, fold_out-Stmt, ind-Stmt, fold-roll-Stmt, roll-Stmt, map-Stmt}
use Rattle.c_tree.specs.declared.statement.StmtKind.{StmtKind, fold-StmtKind, fold-roll-StmtKind, roll-StmtKind, map-StmtKind}
use Rattle.c_tree.specs.declared.statement.StmtKind.TheOpen.{StmtKind-F}
use Rattle.c_tree.specs.declared.statement.StmtKind.TheVariants as s
use Rattle.c_tree.specs.declared.statement.SwitchPart.{SwitchPart, SwitchPart-F, fold-SwitchPart, fold-roll-SwitchPart, roll-SwitchPart, map-SwitchPart}
use Rattle.c_tree.specs.declared.statement.SwitchPart.TheVariants as p
use Rattle.c_tree.specs.BareExpression as tree
use Rattle.c_tree.specs.BareExpression.{Tree, trees_of, bare_expression}
use Rattle.c_tree.specs.BareStatement as a
use Rattle.c_tree.specs.BareStatement.{Action, Parts, BarePart, bare_statement}
use Rattle.c_effect.proofs.Equations.{node, stmt}
use Rattle.c_effect.proofs.Placeless.{no_place, grown, all_grown, grown_stmt, grown_list, grown_parts, grown_part, bare_kind, bare_stmt_kind, bare_part, placeless, placeless_option, placeless_stmt}

-- ---- expressions: at a place by `at`, and `u` of a meaning is that with the fixed place

module _ (K A : Type 0) (at : K → Place → A) (first second : ExprKind-F K A → K) (u : A → A)
    (level : (z : ExprKind-F K A) (p : Place) → at (second (map-ExprKind K A K A (λ k. k) u z)) no_place ≡ u (at (first z) p)) where
  abbrev of_expr : Expr-F K A → A
  of_expr e = at e.kind e.place

  abbrev meaning : Expr → A
  meaning = fold-Expr K A first of_expr

  abbrev kind_meaning : ExprKind → K
  kind_meaning = fold-ExprKind K A first of_expr

  abbrev other : Expr → A
  other = fold-Expr K A second of_expr

  abbrev other_kind : ExprKind → K
  other_kind = fold-ExprKind K A second of_expr

  means : (kind : ExprKind) (z : ExprKind-F ExprKind Expr) → roll-ExprKind z ≡ kind
      → other (node no_place kind) ≡ at (second (map-ExprKind ExprKind Expr K A other_kind other z)) no_place
  means kind z is = fold_out-Expr K A second of_expr (node no_place kind) ∙ ap (λ y. at y no_place) (ap other_kind (sym is) ∙ fold-roll-ExprKind K A second of_expr z)

  abbrev Same : Expr → Type 0
  Same e = other (placeless e) ≡ u (meaning e)

  abbrev SameKind : ExprKind → Type 0
  SameKind kind = (p : Place) → other (grown (bare_kind kind)) ≡ u (at (kind_meaning kind) p)

  all-same : (args : List ((e : Expr) × Same e)) → map other (all_grown (trees_of (map bare_expression (map (λ e. e.0) args)))) ≡ map u (map meaning (map (λ e. e.0) args))
  all-same [] = refl
  all-same (x ∷ args) = rw (x.1, all-same args) refl

  unrolls : (z : ExprKind-F ExprKind Expr)
      → other (grown (tree.kind_step (map-ExprKind ExprKind Expr Tree Tree bare_kind bare_expression z))) ≡ at (second (map-ExprKind K A K A (λ k. k) u (map-ExprKind ExprKind Expr K A kind_meaning meaning z))) no_place
      → SameKind (roll-ExprKind z)
  unrolls z h p = rw (fold-roll-ExprKind K A first of_expr z, fold-roll-ExprKind Tree Tree tree.kind_step tree.expr_step z) (h ∙ level (map-ExprKind ExprKind Expr K A kind_meaning meaning z) p)

  kind-same : (y : ExprKind-F ((kind : ExprKind) × SameKind kind) ((e : Expr) × Same e))
      → SameKind (roll-ExprKind (map-ExprKind ((kind : ExprKind) × SameKind kind) ((e : Expr) × Same e) ExprKind Expr (λ e. e.0) (λ e. e.0) y))
  kind-same (ExprKind-F.Constant c) = unrolls (ExprKind-F.Constant c) (means (k.Constant c) (ExprKind-F.Constant c) (k.rolls-Constant c))
  kind-same (ExprKind-F.Name name) = unrolls (ExprKind-F.Name name) (means (k.Name name) (ExprKind-F.Name name) (k.rolls-Name name))
  kind-same ExprKind-F.Null = unrolls ExprKind-F.Null (means k.Null ExprKind-F.Null k.rolls-Null)
  kind-same (ExprKind-F.Member base field) = unrolls (ExprKind-F.Member base field) (means (k.Member base field) (ExprKind-F.Member base field) (k.rolls-Member base field))
  kind-same (ExprKind-F.Element base i) = unrolls (ExprKind-F.Element base i.0) (means (k.Element base (placeless i.0)) (ExprKind-F.Element base (placeless i.0)) (k.rolls-Element base (placeless i.0))
      ∙ ap (λ b. at (second (ExprKind-F.Element base b)) no_place) i.1)
  kind-same (ExprKind-F.Call f args) = unrolls (ExprKind-F.Call f (map (λ e. e.0) args)) (means (k.Call f (all_grown (trees_of (map bare_expression (map (λ e. e.0) args))))) (ExprKind-F.Call f (all_grown (trees_of (map bare_expression (map (λ e. e.0) args))))) (k.rolls-Call f (all_grown (trees_of (map bare_expression (map (λ e. e.0) args)))))
      ∙ ap (λ b. at (second (ExprKind-F.Call f b)) no_place) (all-same args))
  kind-same (ExprKind-F.Unary op x) = unrolls (ExprKind-F.Unary op x.0) (means (k.Unary op (placeless x.0)) (ExprKind-F.Unary op (placeless x.0)) (k.rolls-Unary op (placeless x.0))
      ∙ ap (λ b. at (second (ExprKind-F.Unary op b)) no_place) x.1)
  kind-same (ExprKind-F.Cast to x) = unrolls (ExprKind-F.Cast to x.0) (means (k.Cast to (placeless x.0)) (ExprKind-F.Cast to (placeless x.0)) (k.rolls-Cast to (placeless x.0))
      ∙ ap (λ b. at (second (ExprKind-F.Cast to b)) no_place) x.1)
  kind-same (ExprKind-F.Binary op l r) = unrolls (ExprKind-F.Binary op l.0 r.0) (means (k.Binary op (placeless l.0) (placeless r.0)) (ExprKind-F.Binary op (placeless l.0) (placeless r.0)) (k.rolls-Binary op (placeless l.0) (placeless r.0))
      ∙ ap (λ b. at (second (ExprKind-F.Binary op b (other (placeless r.0)))) no_place) l.1
      ∙ ap (λ b. at (second (ExprKind-F.Binary op (u (meaning l.0)) b)) no_place) r.1)
  kind-same (ExprKind-F.Bracket x) = unrolls (ExprKind-F.Bracket x.0) (means (k.Bracket (placeless x.0)) (ExprKind-F.Bracket (placeless x.0)) (k.rolls-Bracket (placeless x.0))
      ∙ ap (λ b. at (second (ExprKind-F.Bracket b)) no_place) x.1)

  expr-unrolls : (z : Expr-F ExprKind Expr) → SameKind z.kind → Same (roll-Expr z)
  expr-unrolls z each = rw (fold-roll-Expr K A first of_expr z, fold-roll-Expr Tree Tree tree.kind_step tree.expr_step z) (each z.place)

  pub expression-same : (e : Expr) → Same e
  expression-same = ind-Expr SameKind Same (λ z y is. subst (λ x. SameKind (roll-ExprKind x)) is (kind-same y))
      (λ z y is. subst (λ x. Same (roll-Expr x)) is (expr-unrolls (map-Expr ((kind : ExprKind) × SameKind kind) ((e : Expr) × Same e) ExprKind Expr (λ e. e.0) (λ e. e.0) y) y.kind.1))

-- ---- statements: likewise, with `v` for labels and statements of a switch

-- one level with the fixed place, its parts as these make them
abbrev pub level_placed : {K P C : Type 0} → (C → C) → (P → P) → StmtKind-F K P C → StmtKind-F K P C
level_placed u v (StmtKind-F.Declare kind name value) = StmtKind-F.Declare kind name (placeless_option value)
level_placed u v (StmtKind-F.Assign target op value) = StmtKind-F.Assign (placeless target) op (placeless value)
level_placed u v (StmtKind-F.Call f args) = StmtKind-F.Call f (all_grown (trees_of (map bare_expression args)))
level_placed u v (StmtKind-F.Discard name) = StmtKind-F.Discard name
level_placed u v StmtKind-F.Empty = StmtKind-F.Empty
level_placed u v (StmtKind-F.Block list) = StmtKind-F.Block (map u list)
level_placed u v (StmtKind-F.If condition taken other) = StmtKind-F.If (placeless condition) (u taken) (option_map u other)
level_placed u v (StmtKind-F.Return value) = StmtKind-F.Return (placeless_option value)
level_placed u v StmtKind-F.Break = StmtKind-F.Break
level_placed u v (StmtKind-F.Switch value parts) = StmtKind-F.Switch (placeless value) (map v parts)

abbrev pub part_placed : {K P C : Type 0} → (C → C) → SwitchPart-F K P C → SwitchPart-F K P C
part_placed u (SwitchPart-F.Label value place) = SwitchPart-F.Label (placeless_option value) no_place
part_placed u (SwitchPart-F.Statement x) = SwitchPart-F.Statement (u x)

module _ (K P C : Type 0) (at : K → Place → C) (first second : StmtKind-F K P C → K) (first_part second_part : SwitchPart-F K P C → P) (u : C → C) (v : P → P)
    (level : (z : StmtKind-F K P C) (p : Place) → at (second (level_placed u v z)) no_place ≡ u (at (first z) p))
    (part_level : (z : SwitchPart-F K P C) → second_part (part_placed u z) ≡ v (first_part z)) where
  abbrev of_stmt : Stmt-F K P C → C
  of_stmt x = at x.kind x.place

  abbrev does : Stmt → C
  does = fold-Stmt K P C first first_part of_stmt

  abbrev kind_does : StmtKind → K
  kind_does = fold-StmtKind K P C first first_part of_stmt

  abbrev part_does : SwitchPart → P
  part_does = fold-SwitchPart K P C first first_part of_stmt

  abbrev then_does : Stmt → C
  then_does = fold-Stmt K P C second second_part of_stmt

  abbrev then_kind : StmtKind → K
  then_kind = fold-StmtKind K P C second second_part of_stmt

  abbrev then_part : SwitchPart → P
  then_part = fold-SwitchPart K P C second second_part of_stmt

  abbrev SameS : Stmt → Type 0
  SameS x = then_does (placeless_stmt x) ≡ u (does x)

  abbrev SameK : StmtKind → Type 0
  SameK kind = (p : Place) → then_does (grown_stmt (bare_stmt_kind kind)) ≡ u (at (kind_does kind) p)

  abbrev SameP : SwitchPart → Type 0
  SameP q = then_part (grown_part (bare_part q)) ≡ v (part_does q)

  stmt-means : (kind : StmtKind) (z : StmtKind-F StmtKind SwitchPart Stmt) → roll-StmtKind z ≡ kind
      → then_does (stmt no_place kind) ≡ at (second (map-StmtKind StmtKind SwitchPart Stmt K P C then_kind then_part then_does z)) no_place
  stmt-means kind z is = fold_out-Stmt K P C second second_part of_stmt (stmt no_place kind) ∙ ap (λ y. at y no_place) (ap then_kind (sym is) ∙ fold-roll-StmtKind K P C second second_part of_stmt z)

  stmt-kind-unrolls : (z : StmtKind-F StmtKind SwitchPart Stmt)
      → then_does (grown_stmt (a.kind_step (map-StmtKind StmtKind SwitchPart Stmt Action BarePart Action bare_stmt_kind bare_part bare_statement z)))
      ≡ at (second (level_placed u v (map-StmtKind StmtKind SwitchPart Stmt K P C kind_does part_does does z))) no_place
      → SameK (roll-StmtKind z)
  stmt-kind-unrolls z h p = rw (fold-roll-StmtKind K P C first first_part of_stmt z, fold-roll-StmtKind Action BarePart Action a.kind_step a.part_step a.stmt_step z)
      (h ∙ level (map-StmtKind StmtKind SwitchPart Stmt K P C kind_does part_does does z) p)

  all-does : (ys : List ((x : Stmt) × SameS x)) → map then_does (grown_list (a.actions_of (map bare_statement (map (λ y. y.0) ys)))) ≡ map u (map does (map (λ y. y.0) ys))
  all-does [] = refl
  all-does (y ∷ ys) = rw (y.1, all-does ys) refl

  grown-before : (b : BarePart) (rest : Parts) → grown_parts (a.before b rest) ≡ grown_part b ∷ grown_parts rest
  grown-before (a.a_label value) rest = refl
  grown-before (a.a_statement first) rest = refl

  all-parts : (ys : List ((q : SwitchPart) × SameP q)) → map then_part (grown_parts (a.parts_of (map bare_part (map (λ y. y.0) ys)))) ≡ map v (map part_does (map (λ y. y.0) ys))
  all-parts [] = refl
  all-parts (y ∷ ys) = rw (grown-before (bare_part y.0) (a.parts_of (map bare_part (map (λ y. y.0) ys))), y.1, all-parts ys) refl

  stmt-kind-same : (y : StmtKind-F ((kind : StmtKind) × SameK kind) ((q : SwitchPart) × SameP q) ((x : Stmt) × SameS x))
      → SameK (roll-StmtKind (map-StmtKind ((kind : StmtKind) × SameK kind) ((q : SwitchPart) × SameP q) ((x : Stmt) × SameS x) StmtKind SwitchPart Stmt (λ y. y.0) (λ y. y.0) (λ y. y.0) y))
  stmt-kind-same (StmtKind-F.Declare kind name value) = stmt-kind-unrolls (StmtKind-F.Declare kind name value) (stmt-means (s.Declare kind name (placeless_option value)) (StmtKind-F.Declare kind name (placeless_option value)) (s.rolls-Declare kind name (placeless_option value)))
  stmt-kind-same (StmtKind-F.Assign target op value) = stmt-kind-unrolls (StmtKind-F.Assign target op value) (stmt-means (s.Assign (placeless target) op (placeless value)) (StmtKind-F.Assign (placeless target) op (placeless value)) (s.rolls-Assign (placeless target) op (placeless value)))
  stmt-kind-same (StmtKind-F.Call f args) = stmt-kind-unrolls (StmtKind-F.Call f args) (stmt-means (s.Call f (all_grown (trees_of (map bare_expression args)))) (StmtKind-F.Call f (all_grown (trees_of (map bare_expression args)))) (s.rolls-Call f (all_grown (trees_of (map bare_expression args)))))
  stmt-kind-same (StmtKind-F.Discard name) = stmt-kind-unrolls (StmtKind-F.Discard name) (stmt-means (s.Discard name) (StmtKind-F.Discard name) (s.rolls-Discard name))
  stmt-kind-same StmtKind-F.Empty = stmt-kind-unrolls StmtKind-F.Empty (stmt-means s.Empty StmtKind-F.Empty s.rolls-Empty)
  stmt-kind-same (StmtKind-F.Block ys) = stmt-kind-unrolls (StmtKind-F.Block (map (λ y. y.0) ys)) (stmt-means (s.Block (grown_list (a.actions_of (map bare_statement (map (λ y. y.0) ys))))) (StmtKind-F.Block (grown_list (a.actions_of (map bare_statement (map (λ y. y.0) ys))))) (s.rolls-Block (grown_list (a.actions_of (map bare_statement (map (λ y. y.0) ys)))))
      ∙ ap (λ b. at (second (StmtKind-F.Block b)) no_place) (all-does ys))
  stmt-kind-same (StmtKind-F.If condition x None) = stmt-kind-unrolls (StmtKind-F.If condition x.0 None) (stmt-means (s.If (placeless condition) (placeless_stmt x.0) None) (StmtKind-F.If (placeless condition) (placeless_stmt x.0) None) (s.rolls-If (placeless condition) (placeless_stmt x.0) None)
      ∙ ap (λ b. at (second (StmtKind-F.If (placeless condition) b None)) no_place) x.1)
  stmt-kind-same (StmtKind-F.If condition x (Some y)) = stmt-kind-unrolls (StmtKind-F.If condition x.0 (Some y.0)) (stmt-means (s.If (placeless condition) (placeless_stmt x.0) (Some (placeless_stmt y.0))) (StmtKind-F.If (placeless condition) (placeless_stmt x.0) (Some (placeless_stmt y.0))) (s.rolls-If (placeless condition) (placeless_stmt x.0) (Some (placeless_stmt y.0)))
      ∙ ap (λ b. at (second (StmtKind-F.If (placeless condition) b (Some (then_does (placeless_stmt y.0))))) no_place) x.1
      ∙ ap (λ b. at (second (StmtKind-F.If (placeless condition) (u (does x.0)) (Some b))) no_place) y.1)
  stmt-kind-same (StmtKind-F.Return value) = stmt-kind-unrolls (StmtKind-F.Return value) (stmt-means (s.Return (placeless_option value)) (StmtKind-F.Return (placeless_option value)) (s.rolls-Return (placeless_option value)))
  stmt-kind-same StmtKind-F.Break = stmt-kind-unrolls StmtKind-F.Break (stmt-means s.Break StmtKind-F.Break s.rolls-Break)
  stmt-kind-same (StmtKind-F.Switch value ys) = stmt-kind-unrolls (StmtKind-F.Switch value (map (λ y. y.0) ys)) (stmt-means (s.Switch (placeless value) (grown_parts (a.parts_of (map bare_part (map (λ y. y.0) ys))))) (StmtKind-F.Switch (placeless value) (grown_parts (a.parts_of (map bare_part (map (λ y. y.0) ys))))) (s.rolls-Switch (placeless value) (grown_parts (a.parts_of (map bare_part (map (λ y. y.0) ys)))))
      ∙ ap (λ b. at (second (StmtKind-F.Switch (placeless value) b)) no_place) (all-parts ys))

  part-unrolls : (z : SwitchPart-F StmtKind SwitchPart Stmt)
      → then_part (grown_part (a.part_step (map-SwitchPart StmtKind SwitchPart Stmt Action BarePart Action bare_stmt_kind bare_part bare_statement z)))
      ≡ second_part (part_placed u (map-SwitchPart StmtKind SwitchPart Stmt K P C kind_does part_does does z))
      → SameP (roll-SwitchPart z)
  part-unrolls z h = rw (fold-roll-SwitchPart K P C first first_part of_stmt z, fold-roll-SwitchPart Action BarePart Action a.kind_step a.part_step a.stmt_step z)
      (h ∙ part_level (map-SwitchPart StmtKind SwitchPart Stmt K P C kind_does part_does does z))

  part-same : (y : SwitchPart-F ((kind : StmtKind) × SameK kind) ((q : SwitchPart) × SameP q) ((x : Stmt) × SameS x))
      → SameP (roll-SwitchPart (map-SwitchPart ((kind : StmtKind) × SameK kind) ((q : SwitchPart) × SameP q) ((x : Stmt) × SameS x) StmtKind SwitchPart Stmt (λ y. y.0) (λ y. y.0) (λ y. y.0) y))
  part-same (SwitchPart-F.Label value place) = part-unrolls (SwitchPart-F.Label value place)
      (ap then_part (sym (p.rolls-Label (placeless_option value) no_place)) ∙ fold-roll-SwitchPart K P C second second_part of_stmt (SwitchPart-F.Label (placeless_option value) no_place))
  part-same (SwitchPart-F.Statement x) = part-unrolls (SwitchPart-F.Statement x.0)
      (ap then_part (sym (p.rolls-Statement (placeless_stmt x.0))) ∙ fold-roll-SwitchPart K P C second second_part of_stmt (SwitchPart-F.Statement (placeless_stmt x.0))
      ∙ ap (λ b. second_part (SwitchPart-F.Statement b)) x.1)

  stmt-unrolls : (z : Stmt-F StmtKind SwitchPart Stmt) → SameK z.kind → SameS (roll-Stmt z)
  stmt-unrolls z each = rw (fold-roll-Stmt K P C first first_part of_stmt z, fold-roll-Stmt Action BarePart Action a.kind_step a.part_step a.stmt_step z) (each z.place)

  pub statement-same : (x : Stmt) → SameS x
  statement-same = ind-Stmt SameK SameP SameS (λ z y is. subst (λ x. SameK (roll-StmtKind x)) is (stmt-kind-same y)) (λ z y is. subst (λ x. SameP (roll-SwitchPart x)) is (part-same y))
      (λ z y is. subst (λ x. SameS (roll-Stmt x)) is (stmt-unrolls (map-Stmt ((kind : StmtKind) × SameK kind) ((q : SwitchPart) × SameP q) ((x : Stmt) × SameS x) StmtKind SwitchPart Stmt (λ y. y.0) (λ y. y.0) (λ y. y.0) y) y.kind.1))

  pub statements-same : (xs : List Stmt) → map then_does (grown_list (a.actions_of (map bare_statement xs))) ≡ map u (map does xs)
  statements-same [] = refl
  statements-same (x ∷ xs) = rw (statement-same x, statements-same xs) refl
