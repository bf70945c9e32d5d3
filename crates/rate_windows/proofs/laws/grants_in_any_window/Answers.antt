use Rattle.rate_windows.proofs.Windows.{any-window, any-window-own}
use Rattle.rate_windows.proofs.laws.grants_in_any_window.Goals as goal

pub returns-clause-counted : goal.returns-clause-counted
returns-clause-counted c = any-window

pub returns-clause-own : goal.returns-clause-own
returns-clause-own c = any-window-own
