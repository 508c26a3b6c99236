-- Numbers of one and of two digits, for the search.
pub use Rattle.std.proofs.lemmas.Fmt.{decimal_digit}
pub use Rattle.itoa.proofs.Decimal.{decimal_two}
