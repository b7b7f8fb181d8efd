-- The line says the digits, which are at most twenty; and they are plain.
use Rattle.std.proofs.Common.{◌^◌, ◌<◌, [], decimal, ap, ◌∙◌, arith, rules}
use Rattle.std.proofs.lemmas.Fmt.{decimal_is_IsNumeral, decimal_digit, first_decimal}
use Rattle.sheet.proofs.Growing.{said-none, said-number}
use Rattle.sheet.proofs.digits.decimal_line.Goals as goal

pub returns : goal.returns
returns c =
    let n = c.args.n in
    let small : n < 2 ^ 64 = search rules in
    let none = said-none _ c.new-line.ensures in
    let whole = said-number _ _ [] 0 none n small c.push_number.ensures (omega arith) in
    let read = decimal_is_IsNumeral n small in
    record {
      text = whole.is;
      plain = record {
        digits = read.0;
        reads = read.1;
        zero_is = λ e. ap decimal e ∙ decimal_digit 0 (omega arith);
        no_zero_first = λ h. first_decimal n h small;
      };
    }
