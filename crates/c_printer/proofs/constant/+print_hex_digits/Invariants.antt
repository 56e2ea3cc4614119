use Rattle.std.proofs.Common.{◌+◌}
use Rattle.c_printer.proofs.constant.+print_hex_digits.Given as goal

abbrev pub decreases-print_hex_digits : goal.decreases-print_hex_digits
decreases-print_hex_digits l = l.value + l.width
