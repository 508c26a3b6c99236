use Rattle.mc_elements.proofs.Symbols.{element_of-symbol, same_symbol, symbol-element_of, is_symbol_text-symbol}
use Rattle.mc_elements.proofs.element.symbols_law.Goals as goal

pub returns-clause-found : goal.returns-clause-found
returns-clause-found c = element_of-symbol

pub returns-clause-differ : goal.returns-clause-differ
returns-clause-differ c = same_symbol

pub returns-clause-exact : goal.returns-clause-exact
returns-clause-exact c = symbol-element_of

pub returns-clause-letters : goal.returns-clause-letters
returns-clause-letters c = is_symbol_text-symbol
