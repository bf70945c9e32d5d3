pub mod Grant
pub mod Budget
pub mod Rising
pub mod BudgetLaws
