use Rattle.c_printer.proofs.constant.+print_octal_digits.Given as goal

abbrev pub decreases-print_octal_digits : goal.decreases-print_octal_digits
decreases-print_octal_digits l = l.value
