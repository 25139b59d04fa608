mod Letters
