-- The tokens at which parts end.
use Rattle.std.specs.Prelude.{Bool, is_some}
use Rattle.c_text.specs.declared.token.TokenKind.{TokenKind}
use Rattle.c_tree.specs.Symbol.{is_colon, is_comma, is_semicolon}
use Rattle.c_tree.specs.Operators.{assignment}
use Rattle.c_expression.specs.declared.brackets.Stop.{Stop}
use Rattle.c_expression.specs.declared.brackets.Stop.TheVariants.{Assignment, Colon, Comma, Semicolon}

abbrev pub stops : Stop → TokenKind → Bool
stops Assignment k = is_some (assignment k)
stops Colon k = is_colon k
stops Comma k = is_comma k
stops Semicolon k = is_semicolon k
