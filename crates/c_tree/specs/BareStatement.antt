-- Statements without their places.
use Rattle.std.specs.Prelude.{ℕ, List, [], ◌∷◌, map, Option, Some, None}
use Rattle.c_text.specs.declared.token.Spelled.{Spelled}
use Rattle.c_tree.specs.declared.expression.Callee.{Callee}
use Rattle.c_tree.specs.declared.expression.Expr.{Expr}
use Rattle.c_tree.specs.declared.statement.AssignOp.{AssignOp}
use Rattle.c_tree.specs.declared.statement.Stmt.{Stmt, Stmt-F, fold-Stmt}
use Rattle.c_tree.specs.declared.statement.StmtKind.TheOpen.{StmtKind-F}
use Rattle.c_tree.specs.declared.statement.SwitchPart.{SwitchPart, SwitchPart-F, fold-SwitchPart}
use Rattle.c_tree.specs.BareExpression.{Tree, Trees, trees_of, bare_expression}

mutual
  pub data Action : Type 0 where
    declare : Spelled → (name : List ℕ) → (value : Option Tree) → Action
    assign : (target : Tree) → AssignOp → (value : Tree) → Action
    call : (function : Callee) → (arguments : Trees) → Action
    discard : (name : List ℕ) → Action
    empty : Action
    block : Actions → Action
    -- an `if` without an `else`, and with one
    when : (condition : Tree) → Action → Action
    choose : (condition : Tree) → Action → Action → Action
    return : (value : Option Tree) → Action
    break : Action
    switch : (value : Tree) → Parts → Action

  pub data Actions : Type 0 where
    no_more : Actions
    then : Action → Actions → Actions

  pub data Parts : Type 0 where
    done : Parts
    -- `case`, or `default` without a value
    label : (value : Option Tree) → Parts → Parts
    statement : Action → Parts → Parts

abbrev pub actions_of : List Action → Actions
actions_of [] = no_more
actions_of (a ∷ rest) = then a (actions_of rest)

-- a label, or a statement
pub data BarePart : Type 0 where
  a_label : Option Tree → BarePart
  a_statement : Action → BarePart

abbrev pub before : BarePart → Parts → Parts
before (a_label v) ps = label v ps
before (a_statement a) ps = statement a ps

abbrev pub parts_of : List BarePart → Parts
parts_of [] = done
parts_of (p ∷ ps) = before p (parts_of ps)

abbrev pub bare_option : Option Expr → Option Tree
bare_option None = None
bare_option (Some e) = Some (bare_expression e)

abbrev pub bare_all : List Expr → Trees
bare_all es = trees_of (map bare_expression es)

-- ---- of a statement

abbrev pub bare_branches : Tree → Action → Option Action → Action
bare_branches condition yes_part None = when condition yes_part
bare_branches condition yes_part (Some other) = choose condition yes_part other

-- one level, with the parts in their places
abbrev pub kind_step : StmtKind-F Action BarePart Action → Action
kind_step (StmtKind-F.Declare kind name value) = declare kind name (bare_option value)
kind_step (StmtKind-F.Assign target op value) = assign (bare_expression target) op (bare_expression value)
kind_step (StmtKind-F.Call function args) = call function (bare_all args)
kind_step (StmtKind-F.Discard name) = discard name
kind_step StmtKind-F.Empty = empty
kind_step (StmtKind-F.Block list) = block (actions_of list)
kind_step (StmtKind-F.If condition yes_part other) = bare_branches (bare_expression condition) yes_part other
kind_step (StmtKind-F.Return value) = return (bare_option value)
kind_step StmtKind-F.Break = break
kind_step (StmtKind-F.Switch value parts) = switch (bare_expression value) (parts_of parts)

abbrev pub part_step : SwitchPart-F Action BarePart Action → BarePart
part_step (SwitchPart-F.Label value place) = a_label (bare_option value)
part_step (SwitchPart-F.Statement s) = a_statement s

abbrev pub stmt_step : Stmt-F Action BarePart Action → Action
stmt_step s = s.kind

-- the statement without its places
abbrev pub bare_statement : Stmt → Action
bare_statement = fold-Stmt Action BarePart Action kind_step part_step stmt_step

-- a label or a statement of a switch without its places
abbrev pub bare_switch_part : SwitchPart → BarePart
bare_switch_part = fold-SwitchPart Action BarePart Action kind_step part_step stmt_step
